use Rattle.std.proofs.Common.{rules, sym, ap, ◌∙◌}
use Rattle.std.specs.Option.{option_copied_mut}
use Rattle.eb_scene.proofs.SceneFacts.{err_told}
use Rattle.eb_scene.proofs.table.Table.put_part.Goals.{in-Some, in-None}
use Rattle.eb_scene.proofs.table.Table.put_part.Goals as goal

pub returns-clause-err : goal.returns-clause-err
returns-clause-err c = elim c.match-get_mut.branch [
  | in-Some w ↦
      let set = c.get_mut.follows.holds w.put_part.new.object in
      let there = sym c.get_mut.ensures.value ∙ ap option_copied_mut w.in-Some.is in
      rw (w.result-is, w.self-inside-is, ← c.self.view_is) (err_told _ _ _ c.args.number _ _ there set.0 w.put_part.ensures.err)
  | in-None w ↦ search rules
]
