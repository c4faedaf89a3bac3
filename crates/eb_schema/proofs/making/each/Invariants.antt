use Rattle.std.proofs.Common.{◌≡◌, [], take, drop}
use Rattle.eb_schema.specs.SchemaTests.{each_of}
use Rattle.eb_schema.proofs.MakingFacts.{with_front}
use Rattle.eb_schema.proofs.making.each.Given as goal

abbrev pub invariant-loop-index : goal.invariant-loop-index
invariant-loop-index g l =
    with_front l.made.items (each_of (g.M.Maker.makes l.maker) (take l.index (g.M.Maker.listed l.maker)) (drop l.index (g.M.Maker.listed l.maker))) ≡ each_of (g.M.Maker.makes l.maker) [] (g.M.Maker.listed l.maker)
