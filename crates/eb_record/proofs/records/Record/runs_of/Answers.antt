use Rattle.std.proofs.Common.{ap, ◌∙◌}
use Rattle.std.specs.FinMap.{values}
use Rattle.eb_record.specs.Records.{readers_of}
use Rattle.eb_record.proofs.FoundFacts.{readers_found}
use Rattle.eb_record.proofs.records.Record.runs_of.Goals as goal

pub returns : goal.returns
returns c =
    c.in_ok-ids.ensures ∙ ap values c.in_ok-found.ensures
    ∙ readers_found c.self.inside.looks c.self.inside.runs c.args.keys.now c.self.invariant
    ∙ ap (λ m. readers_of m c.args.keys.now) c.self.view_is
