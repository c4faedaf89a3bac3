use Rattle.std.proofs.Common.{arith}
use Rattle.std.specs.Str.{bytes_eq}
use Rattle.eb_schema.specs.Tables.{under_name}
use Rattle.eb_schema.proofs.TableFacts.{names_more}
use Rattle.eb_schema.proofs.tables.names_of.Goals as goal

pub loop-index-preserved : goal.loop-index-preserved
loop-index-preserved g c = record {
  within = omega arith;
  firsts = names_more c.args.items.now c.loop-index.index c.index-items-index.result (omega arith) (omega arith) c.index-items-index.is (λ q x. bytes_eq q (g.T.Listed.name_of x))
      (under_name c.loop-index.map) (under_name c.put_name.new.map) (rw c.name.ensures at c.in_ok-put_name.ensures) c.loop-index.invariant.firsts;
}
