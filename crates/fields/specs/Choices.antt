-- A choice between two values, one of which is worked out only if it is taken.
use Rattle.std.specs.Prelude.{Bool, true, false}

-- If the test holds, what `work` gives, worked out only then; otherwise `other`.
abbrev pub where_so : {A : Type 0} → Bool → A → (Unit {0} → A) → A
where_so true other work = work tt
where_so false other work = other
