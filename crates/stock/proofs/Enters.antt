-- A cartridge whose label can be read.
use Rattle.std.proofs.Common.{◌≡◌, ℕ, refl}
use Rattle.labels.specs.Numbers.{unreadable_number}
use Rattle.std.proofs.lemmas.Bool.{ne_eqb}
use Rattle.stock.specs.Filing.{volume_of}
use Rattle.stock.specs.Holding.{held_in}
use Rattle.stock.specs.Models.{Stocked}
use Rattle.stock.specs.Moves.{entered, entered_new}

pub readable_entered : (s : Stocked) (p k : ℕ) → k ≡ held_in s.robot p → (k ≡ unreadable_number → ⊥) → entered s p ≡ entered_new (volume_of s.filed k) s k p
readable_entered s p k e n = rw (← e) (rw (ne_eqb k unreadable_number n) refl)
