-- No group is called nothing, which is what is read where there is no request. Assumes nothing.
use Prim.Native.Nat.{◌≤◌}
use mathlib.Core.Path.{◌≡◌, refl, ◌∙◌}
use mathlib.Core.Bool.{false}
use native.Mathlib.Omega.{arith}
use lib.ListN.{length, get_or-eq_default}
use borrow.Author.Rules.{rules}
use borrow.Author.Tests.{ne_eqb}
use Rattle.search.specs.Words.{◌is◌}
use Rattle.search.proofs.Chains.{any_in_slice}
use Rattle.numbers.specs.Limits.{most_resources, nothing}
use Rattle.setups.specs.Naming.{names, group_of}
use Rattle.protocol.specs.Words.{task, depth, request}
use Rattle.soundness.proofs.Opened.{front_some}
use Rattle.soundness.proofs.named.Named.has_open.Goals as goal

pub returns : goal.returns
unfolding group_of depth request
returns c =
    let s = c.args.self.now.state.now in
    let t = c.args.t in
    let g = c.args.g in
    let long : length c.args.self.now.naming ≡ most_resources = search rules in
    let past : length (names s.setup) ≤ nothing = omega (arith, rw c.args.self.now.named at long) in
    let none : group_of s.setup nothing is g ≡ false = rw (get_or-eq_default (names s.setup) nothing past) (ne_eqb nothing g (omega arith)) in
    any_in_slice {xs = c.opened_by.result.now} (λ r. group_of s.setup r is g) nothing refl (search rules) c.any.ensures.ran (λ x b q k. search rules)
    ∙ rw (c.opened_by.ensures, c.task-task.ensures) (front_some (λ r. group_of s.setup r is g) (task s t).requests (task s t).depth none)
