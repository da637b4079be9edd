-- Which word of a line a refusal is about, counted from 0, if the line is of its form but its numbers are refused
-- (docs/FORMATS.md, Text).
use Rattle.std.specs.Prelude.{ℕ, ◌+◌, cond, leb, eqb, pos, nat_abs}
use Rattle.metres.specs.Metres.{most_centimetres}
use Rattle.chart.specs.declared.Place.{Place}
use Rattle.chart.specs.declared.Chain.{Chain}
use Rattle.chart.specs.Places.{place_of, in_range, same_place}
use Rattle.chart.specs.Factors.{unit_factor}
use Rattle.chart.specs.Chains.{is_sound}
use Rattle.search.specs.Windows.{most_exponent, is_window}
use Rattle.records.specs.declared.Job.{Job}
use Rattle.records.specs.LogRecords.{is_place}
use Rattle.writing.specs.declared.Draft.{Draft}
use Rattle.parsing.specs.declared.ChainFault.{ChainFault}
use Rattle.parsing.specs.declared.ChainFault.TheVariants as fault

-- Of a place that is out of range: 0 for its easting, unless it would be in range at northing 0; then 1, for its northing.
unfoldable pub place_fault : Place → ℕ
place_fault p = cond (in_range (place_of p.easting 0)) 1 0

-- Of a job that is refused with 6 or 7: the tolerance; the exponent; or the easting, unless the window would be one at northing 0,
-- and then the northing.
unfoldable pub job_fault : ℕ → Job → ℕ
job_fault number j =
    cond (eqb number 7) 3
    (cond (leb j.window.k most_exponent)
    (cond (is_window (record { corner = place_of j.window.corner.easting 0; k = j.window.k })) 1 0) 2)

-- Of a draft that is refused with 2 to 5: its kind; X or Y, for its size or for its range; or its chain.
unfoldable pub draft_fault : ℕ → Draft → ℕ
draft_fault number d =
    cond (eqb number 2) 0
    (cond (eqb number 3) (cond (leb (nat_abs d.x) most_centimetres) 4 3)
    (cond (eqb number 4) (cond (is_place d.x (pos 0)) 4 3) 1))

-- The same stations with the factor 1,000,000: so only the stations decide whether it is sound.
abbrev pub unscaled : Chain → Chain
unscaled c = record { master = c.master; a = c.a; b = c.b; factor = unit_factor }

-- Of a chain that is not sound: the first easting or northing that is out of range; or, if none is, the first word of a station
-- that stands where one before it does; or, if the stations are sound by themselves, its factor.
unfoldable pub chain_fault : Chain → ChainFault
chain_fault c =
    cond (in_range c.master)
    (cond (in_range c.a)
    (cond (in_range c.b) (cond (is_sound (unscaled c)) fault.Factor (fault.Spot (cond (same_place c.master c.a) 2 4))) (fault.Range (4 + place_fault c.b)))
    (fault.Range (2 + place_fault c.a)))
    (fault.Range (place_fault c.master))
