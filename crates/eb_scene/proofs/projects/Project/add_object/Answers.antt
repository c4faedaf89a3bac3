use Rattle.std.proofs.Common.{rules, sym, ap, ◌∙◌}
use Rattle.std.specs.Option.{option_copied_mut}
use Rattle.eb_scene.specs.Edits.{object_added}
use Rattle.eb_scene.proofs.SceneFacts.{scene_told}
use Rattle.eb_scene.proofs.ValidProjects.{scene_valid}
use Rattle.eb_scene.proofs.ValidObjects.{added}
use Rattle.eb_scene.proofs.projects.Project.add_object.Goals.{in-Some, in-None}
use Rattle.eb_scene.proofs.projects.Project.add_object.Goals as goal

pub returns : goal.returns
returns c = elim c.match-get_mut.branch [
  | in-Some w ↦
      let set = c.get_mut.follows.holds w.add_object.new.scene in
      let there = sym c.get_mut.ensures.value ∙ ap option_copied_mut w.in-Some.is in
      rw (w.result-is, w.self-inside-is, ← c.self.view_is) (scene_told _ c.args.scene (λ es. object_added es c.args.object c.args.parent c.args.section) _ _ _ _ there set.0 w.add_object.ensures)
  | in-None w ↦ search rules
]

pub invariant_of-self : goal.invariant_of-self
invariant_of-self c = elim c.match-get_mut.branch [
  | in-Some w ↦
      let set = c.get_mut.follows.holds w.add_object.new.scene in
      let there = sym c.get_mut.ensures.value ∙ ap option_copied_mut w.in-Some.is in
      rw w.self-inside-is (scene_valid _ c.self.invariant c.args.scene (λ es. object_added es c.args.object c.args.parent c.args.section) (λ es fs scene is. added c.self.inside.schema es c.args.object c.args.parent c.args.section fs scene c.requires is) _ _ _ _ there set.0 w.add_object.ensures)
  | in-None w ↦ rw (w.self-inside-is, c.get_mut.follows.holds-at-none) c.self.invariant
]
