use Rattle.std.proofs.Common.{arith}
use Rattle.eb_schema.specs.Tables.{under_name}
use Rattle.eb_schema.specs.SchemaTests.{is_named}
use Rattle.eb_schema.proofs.TableFacts.{names_more}
use Rattle.eb_schema.proofs.authoring_drafts.copies.Goals as goal

pub loop-index-preserved : goal.loop-index-preserved
loop-index-preserved c = record {
  within = omega arith;
  firsts = names_more c.args.drafts.now c.loop-index.index c.index-drafts-index.result (omega arith) (omega arith) c.index-drafts-index.is (λ q a. is_named q a.copy.value)
      (under_name c.loop-index.map) (under_name c.put_copy.new.map) c.in_ok-put_copy.ensures c.loop-index.invariant.firsts;
}
