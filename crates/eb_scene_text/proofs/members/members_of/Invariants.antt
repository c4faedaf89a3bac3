use Rattle.std.proofs.Common.{◌≡◌}
use Rattle.serde_json.specs.View.{members_view}
use Rattle.eb_scene_text.specs.Values.{members_at}
use Rattle.eb_json.proofs.FormFacts.{with_front}
use Rattle.eb_scene_text.proofs.members.members_of.Given as goal

-- what was read, and then what the members read as that are left
abbrev pub invariant-loop-key : goal.invariant-loop-key
invariant-loop-key g l = with_front l.read.items (members_at (g.F.MemberForm.reads l.form) l.next (members_view l.key-iterator)) ≡ members_at (g.F.MemberForm.reads l.form) l.place (members_view l.map.entries)
