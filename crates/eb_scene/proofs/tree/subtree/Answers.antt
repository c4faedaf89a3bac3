use Rattle.std.proofs.Common.{◌≤◌, ◌++◌, sym, ap, ◌∙◌, arith}
use Rattle.std.proofs.lemmas.List.{append_assoc, append-nil}
use Rattle.eb_scene.proofs.TreeFacts.{subtree_some, subtree_end}
use Rattle.eb_scene.proofs.tree.subtree.Goals as goal

pub loop-i-preserved : goal.loop-i-preserved
loop-i-preserved c =
    let all = c.loop-i.all.items in
    rw (c.in_ok-extend_from_slice.ensures.items, c.in_ok-level-2.ensures, c.deref.ensures.value, c.deref-in-loop-i.ensures.value)
    (append_assoc all c.loop-i.level.items _
    ∙ ap (λ ns. all ++ ns) (sym (subtree_some c.args.scene.now c.loop-i.level.items c.args.levels c.loop-i.i c.loop-i-test.true)) ∙ c.loop-i.invariant)

pub returns : goal.returns
returns c =
    let all = c.loop-i.all.items in
    let end : c.args.levels ≤ c.loop-i.i = omega (arith, c.loop-i-test.false) in
    sym (append-nil all) ∙ ap (λ ns. all ++ ns) (sym (subtree_end c.args.scene.now c.loop-i.level.items c.args.levels c.loop-i.i end)) ∙ c.loop-i.invariant
