-- The numbers of the refusals: 1 to 11 of 01, Numbers of refusal; and 12, which 02, A5, gives to text of another form.
use Rattle.std.specs.Prelude.{ℕ, Result, Ok, Err}
use Rattle.refusals.specs.declared.Refusal.{Refusal}
use Rattle.refusals.specs.declared.Refusal.TheVariants.{Length, Form, Number, Place, Chain, Window, Tolerance, NoMatch, NoRoom, Allowance, Hold, Line}

-- The number of a refusal.
abbrev pub refusal_number : Refusal → ℕ
refusal_number Length = 1
refusal_number Form = 2
refusal_number Number = 3
refusal_number Place = 4
refusal_number Chain = 5
refusal_number Window = 6
refusal_number Tolerance = 7
refusal_number NoMatch = 8
refusal_number NoRoom = 9
refusal_number Allowance = 10
refusal_number Hold = 11
refusal_number Line = 12

-- A number that a caller has in place of a refusal is its own.
abbrev pub any_number : ℕ → ℕ
any_number n = n

-- The number of the refusal that an answer is, 0 if it is none.
abbrev pub number_told : {A : Type 0} → Result A Refusal → ℕ
number_told (Ok a) = 0
number_told (Err r) = refusal_number r
