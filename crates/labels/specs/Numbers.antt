-- Characters as digits in base 36.
use Rattle.std.specs.Prelude.{ℕ, ◌+◌, ◌-◌, ◌*◌, ◌/◌, ◌%◌, cond, List, [], ◌∷◌, nat_le, nat_lt}

-- What a right character counts: 0 to 9 as they stand, A as 10.
abbrev pub digit_of : ℕ → ℕ
digit_of b = cond (nat_le b 57) (b - 48) (b - 55)

-- The character that counts d.
abbrev pub character_of : ℕ → ℕ
character_of d = cond (nat_lt d 10) (d + 48) (d + 55)

-- The characters read in base 36, the first one highest, behind what counts k.
abbrev pub value_from : ℕ → List ℕ → ℕ
value_from k [] = k
value_from k (b ∷ bs) = value_from (k * 36 + digit_of b) bs

-- The cartridge number of a label.
abbrev pub number_of : List ℕ → ℕ
number_of l = 1 + value_from 0 l

-- The six characters whose value is k.
abbrev pub characters_of : ℕ → List ℕ
characters_of k =
    character_of (k / 60466176) ∷ character_of (k / 1679616 % 36) ∷ character_of (k / 46656 % 36)
    ∷ character_of (k / 1296 % 36) ∷ character_of (k / 36 % 36) ∷ character_of (k % 36) ∷ []

-- The characters of the label with the cartridge number n.
abbrev pub label_of : ℕ → List ℕ
label_of n = characters_of (n - 1)

-- The highest number that a label has, and the number of any cartridge that cannot be read.
abbrev pub highest_number : ℕ
highest_number = 2176782336

abbrev pub unreadable_number : ℕ
unreadable_number = 2176782337
