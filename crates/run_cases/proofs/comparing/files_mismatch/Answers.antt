use Rattle.std.proofs.Common.{rules, ◌≡◌, length, take, arith, subst, sym}
use Rattle.std.proofs.lemmas.List.Elements.{All-more, All-same}
use Rattle.std.proofs.lemmas.List.{take_all}
use Rattle.run_cases.specs.Wanted.{IsKept}
use Rattle.run_cases.proofs.comparing.files_mismatch.Goals as goal

pub loop-part-preserved : goal.loop-part-preserved
loop-part-preserved c =
    All-more (IsKept c.args.folder.now.files) c.args.parts.now c.loop-part.part-index c.part-item.result c.loop-part-test.true c.loop-part.invariant
    (subst (IsKept c.args.folder.now.files) c.part-item.is (c.in_ok-mismatch.ensures c.in_default.is))

pub returns : goal.returns
returns c = λ _. All-same (IsKept c.args.folder.now.files) c.args.parts.now _ (sym (take_all c.loop-part.part-index c.args.parts.now c.loop-part-test.false)) c.loop-part.invariant
