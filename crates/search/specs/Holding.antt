-- How the code represents a search: what its private functions promise each other. No public contract uses it.
use Rattle.std.specs.Prelude.{ℕ, ◌+◌, ◌-◌, ◌*◌, ◌/◌, ◌≤◌, ◌^◌, ◌≡◌, List, [], ◌∷◌, length, take, None, Some, Result, Ok, Err}
use Rattle.std.proofs.Math.IntN.{sub_ℕ}
use Rattle.chart.specs.declared.Place.{Place}
use Rattle.chart.specs.Places.{most_easting, most_northing}
use Rattle.chart.specs.Factors.{unit_factor}
use Rattle.chart.specs.Readings.{Wanted}
use Rattle.search.specs.declared.hunt.Wish.{Wish}
use Rattle.search.specs.declared.hunt.Hunt.{Hunt}
use Rattle.search.specs.declared.Found.{Found}
use Rattle.search.specs.declared.Unfound.{Unfound}
use Rattle.search.specs.Questions.{Rule, Limits, Question}
use Rattle.search.specs.Walk.{Halt, Standing}
use Rattle.search.specs.Answers.{unfound_by, entries_of}

-- The slave of a wish, and the reading that it wants.
abbrev pub wanted_by : Wish → Wanted
wanted_by w = record { slave = w.slave; reading = sub_ℕ w.above w.below }

-- The rule and the limits of a hunt, and the question that they make.
abbrev pub rule_by : Hunt → Rule
rule_by h =
    record {
      chain = record { master = h.master; a = h.a.slave; b = h.b.slave; factor = h.factor };
      wanted = wanted_by h.a ∷ wanted_by h.b ∷ [];
      tolerance = h.tolerance;
    }

abbrev pub limits_by : Hunt → Limits
limits_by h = record { allowance = h.allowance; room = h.room }

abbrev pub question_by : Hunt → Question
question_by h = record { rule = rule_by h; limits = limits_by h }

-- The least distance on the grid that is at least r long on the ground, under the factor f: the quotient is rounded up.
abbrev pub least_for : ℕ → ℕ → ℕ
least_for f r = (r * f + (unit_factor - 1)) / unit_factor

-- The square of side 2^k at p lies on the chart.
pub record OnChart (k side : ℕ) (p : Place) : Type 0 where
  pub side_is : side ≡ 2 ^ k
  pub east : p.easting + side ≤ most_easting + 1
  pub north : p.northing + side ≤ most_northing + 1

-- What is found so far, t, and the list l represent the state s of a walk that goes on: the list begins with its places.
pub record Holds (s : Standing) (t : Found) (l : List ℕ) : Type 0 where
  pub goes_on : s.stop ≡ None
  pub visits : t.visits ≡ s.visits
  pub count : t.count ≡ length s.places
  pub entries : take (2 * t.count) l ≡ entries_of s.places

-- A walk in the state s was stopped, and is refused so.
pub record Halted (s : Standing) (why : Unfound) : Type 0 where
  pub halt : Halt
  pub stop : s.stop ≡ Some halt
  pub refusal : why ≡ unfound_by halt s.visits

-- What a visit answers, and the list that it leaves, represent the state s of a walk. Of a walk that was stopped the list tells nothing.
abbrev pub Represents : Standing → Result Found Unfound → List ℕ → Type 0
Represents s (Ok t) l = Holds s t l
Represents s (Err why) l = Halted s why
