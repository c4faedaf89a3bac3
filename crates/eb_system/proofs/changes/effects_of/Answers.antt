use Rattle.std.proofs.Common.{◌++◌, ap, ◌∙◌}
use Rattle.std.specs.Map.Iter.{deref_pair}
use Rattle.std.proofs.lemmas.Map.Iter.{rest_more}
use Rattle.eb_system.specs.Stages.{changes_at, issues_at}
use Rattle.eb_system.proofs.TurnFacts.{one_more}
use Rattle.eb_system.proofs.changes.effects_of.Goals as goal

pub loop-name-preserved : goal.loop-name-preserved
loop-name-preserved c =
    let all = c.args.entities.now in
    let system = c.args.system.now in
    let left = rest_more deref_pair c.loop-name.name-iterator c.next.new.self c.next.result (c.in-Some.name, c.in-Some.entity) c.in-Some.is c.next.ensures.steps in
    let put = c.in_ok-put_effects.ensures in
    let same = c.in_ok-before.ensures in
    let e = deref_pair (c.in-Some.name, c.in-Some.entity) in
    record {
      changes = one_more (changes_at all system) c.loop-name.done.changes c.put_effects.new.out.changes _ e c.loop-name.name-iterator c.next.new.self left
          (put.changes ∙ ap (λ before. c.loop-name.done.changes ++ changes_at before system e) same) c.loop-name.invariant.changes;
      issues = one_more (issues_at all system) c.loop-name.done.issues c.put_effects.new.out.issues _ e c.loop-name.name-iterator c.next.new.self left
          (put.issues ∙ ap (λ before. c.loop-name.done.issues ++ issues_at before system e) same) c.loop-name.invariant.issues;
    }
