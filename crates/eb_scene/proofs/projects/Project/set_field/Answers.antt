use Rattle.std.proofs.Common.{rules, sym, ap, ◌∙◌}
use Rattle.std.specs.Option.{option_copied_mut}
use Rattle.eb_scene.specs.Edits.{field_set}
use Rattle.eb_scene.proofs.SceneFacts.{scene_told}
use Rattle.eb_scene.proofs.ValidProjects.{scene_valid}
use Rattle.eb_scene.proofs.ValidComponents.{valued}
use Rattle.eb_scene.proofs.projects.Project.set_field.Goals.{in-Some, in-None}
use Rattle.eb_scene.proofs.projects.Project.set_field.Goals as goal

pub returns : goal.returns
returns c = elim c.match-get_mut.branch [
  | in-Some w ↦
      let set = c.get_mut.follows.holds w.set_field.new.scene in
      let there = sym c.get_mut.ensures.value ∙ ap option_copied_mut w.in-Some.is in
      rw (w.result-is, w.self-inside-is, ← c.self.view_is) (scene_told _ c.args.scene (λ es. field_set c.self.inside.schema es c.args.object c.args.kind.now c.args.field.now c.args.value) _ _ _ _ there set.0 w.set_field.ensures)
  | in-None w ↦ search rules
]

pub invariant_of-self : goal.invariant_of-self
invariant_of-self c = elim c.match-get_mut.branch [
  | in-Some w ↦
      let set = c.get_mut.follows.holds w.set_field.new.scene in
      let there = sym c.get_mut.ensures.value ∙ ap option_copied_mut w.in-Some.is in
      rw w.self-inside-is (scene_valid _ c.self.invariant c.args.scene (λ es. field_set c.self.inside.schema es c.args.object c.args.kind.now c.args.field.now c.args.value) (λ es fs scene is. valued c.self.inside.schema es c.args.object c.args.kind.now c.args.field.now c.args.value fs scene is) _ _ _ _ there set.0 w.set_field.ensures)
  | in-None w ↦ rw (w.self-inside-is, c.get_mut.follows.holds-at-none) c.self.invariant
]
