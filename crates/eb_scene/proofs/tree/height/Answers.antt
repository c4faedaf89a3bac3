use Rattle.std.proofs.Common.{◌≡◌, ◌-◌, length, ◌<◌, arith}
use Rattle.std.proofs.lemmas.Bool.Decides.{nat_tests}
use Rattle.eb_scene.proofs.TreeFacts.{height_empty, height_step}
use Rattle.eb_scene.proofs.tree.height.Goals as goal

pub returns-then-is_empty-clause-height : goal.returns-then-is_empty-clause-height
returns-then-is_empty-clause-height c =
    let empty : length c.loop-i.level.items ≡ 0 = grind (arith, nat_tests, c.if-is_empty.ensures) in
    omega (arith, c.loop-i.invariant, height_empty c.args.scene.now c.loop-i.level.items (c.args.levels - c.loop-i.i) empty)

pub loop-i-preserved : goal.loop-i-preserved
loop-i-preserved c =
    let rest : 0 < length c.loop-i.level.items = grind (arith, nat_tests, c.if-is_empty.ensures) in
    rw (c.in_ok-level-2.ensures, c.deref.ensures.value)
    (omega (arith, c.loop-i.invariant, height_step c.args.scene.now c.loop-i.level.items c.args.levels c.loop-i.i c.loop-i-test.true rest))
