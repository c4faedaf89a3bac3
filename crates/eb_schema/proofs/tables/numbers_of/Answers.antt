use Rattle.std.proofs.Common.{arith}
use Rattle.eb_schema.proofs.TableFacts.{numbers_more}
use Rattle.eb_schema.proofs.tables.numbers_of.Goals as goal

pub loop-index-preserved : goal.loop-index-preserved
loop-index-preserved g c = record {
  within = omega arith;
  firsts = numbers_more c.args.items.now c.loop-index.index c.index-items-index.result (omega arith) (omega arith) c.index-items-index.is g.T.Listed.number_of c.loop-index.map c.insert.new.self
      (rw c.number.ensures at c.in_ok-insert.ensures.entries) c.loop-index.invariant.firsts;
}
