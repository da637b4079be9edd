-- `files::joining::joined` begins with no word, and ends with one for each argument.
use Rattle.std.proofs.Common.{◌≡◌, ℕ, ◌-◌, take, subst, arith}
use Rattle.files.specs.Answers.{AreWords, none}
use Rattle.files.proofs.joining.joined.Goals as goal

pub loop-i-init : goal.loop-i-init
loop-i-init g c = (omega arith, (omega arith, none))

pub returns : goal.returns
returns g c =
    let l = c.loop-i in
    let all : l.i - 1 ≡ c.args.count - 1 = omega arith in
    (omega arith, subst (λ (n : ℕ). AreWords n (take l.end l.line)) all l.invariant.1.1)
