-- Reading and writing go back and forth.
use Rattle.std.specs.Prelude.{◌≡◌, ℕ, ◌≤◌, List, ◌++◌, length, drop, Ok}
use Rattle.requests.specs.declared.bodies.Request.{Request}
use Rattle.requests.specs.declared.taking.Fields.{Fields}
use Rattle.requests.specs.Reading.{request_in}
use Rattle.requests.specs.Values.{fields_for}
use Rattle.requests.specs.Writing.{answer, left}

-- A packet p is what the writer makes of the request r: into any buffer with room it writes just p, and tells p's length.
pub record WritesBack (r : Request) (p : List ℕ) : Type 0 where
  pub told : (n : ℕ) → 15 ≤ n → answer n (fields_for r) ≡ Ok (length p)
  pub buffer : (xs : List ℕ) → 15 ≤ length xs → left (fields_for r) xs ≡ p ++ drop (length p) xs

-- A packet p reads as a request, and that request is sent in the fields f.
pub record ReadsBack (p : List ℕ) (f : Fields) : Type 0 where
  pub request : Request
  pub reads : request_in p ≡ Ok request
  pub given : fields_for request ≡ f
