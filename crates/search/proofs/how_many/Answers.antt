-- `search::how_many` meets its contract: it says what a search with a list of two entries, room for one place, answers.
use mathlib.Core.Path.{◌≡◌, ap, ap₂, ◌∙◌}
use mathlib.Core.List.{List, [], ◌∷◌}
use lib.IntN.{ℤ}
use mir.Syntax.{w64}
use mir.Val.{to_z, of_z}
use mir.ValLaws.{to_z-of_z}
use Rattle.search.specs.Answers.{SearchLeft, search_left}
use Rattle.search.specs.Counts.{said_for}
use Rattle.search.proofs.CountLaws.{place_ahead, said_of_two}
use Rattle.search.proofs.how_many.Goals.{After-said_for, After-search-answer, Start}
use Rattle.search.proofs.how_many.Goals as goal

-- The search with a list of two entries, room for one place.
abbrev left : Start → List ℤ → SearchLeft
left o readings =
    let a = o.args in
    search_left a.c readings a.w a.tolerance a.allowance 2

-- The readings, as the machine reads them back from their bits, and as they were given.
abbrev read : Start → List ℤ
read o = to_z w64 (of_z w64 o.args.ra) ∷ to_z w64 (of_z w64 o.args.rb) ∷ []

abbrev given : Start → List ℤ
given o = o.args.ra ∷ o.args.rb ∷ []

read_back : (o : Start) → read o ≡ given o
read_back o = ap₂ (λ (x y : ℤ). x ∷ y ∷ []) (to_z-of_z w64 o.args.ra o.ranges.ra) (to_z-of_z w64 o.args.rb o.ranges.rb)

answered : (c : After-search-answer) → c.search-answer.result ≡ (left c.before.before (given c.before.before)).answer
answered c =
    let told : c.search-answer.result ≡ (left c.before.before (read c.before.before)).answer = c.search-answer.ensures.answer in
    told ∙ ap (λ (l : List ℤ). (left c.before.before l).answer) (read_back c.before.before)

listed : (c : After-search-answer) → c.search-answer.new.list ≡ (left c.before.before (given c.before.before)).list
listed c =
    let told : c.search-answer.new.list ≡ (left c.before.before (read c.before.before)).list = c.search-answer.ensures.list in
    told ∙ ap (λ (l : List ℤ). (left c.before.before l).list) (read_back c.before.before)

-- What is said of it, with the place that its list begins with.
said : (c : After-said_for) → let found = c.search-answer in c.said_for.result ≡ said_for found.result (place_ahead found.new.list)
said c = c.said_for.ensures

pub returns : goal.returns
returns c =
    let a = c.args in
    said c
    ∙ ap₂ said_for (answered (goal.at.returns c).After-search-answer) (ap place_ahead (listed (goal.at.returns c).After-search-answer))
    ∙ said_of_two a.c (a.ra ∷ a.rb ∷ []) a.w a.tolerance a.allowance
