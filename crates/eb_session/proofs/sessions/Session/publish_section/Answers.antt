use Rattle.std.proofs.Common.{◌+◌, ◌∙◌, refl, sym, ap, subst}
use Rattle.std.specs.Prelude.{option_map}
use Rattle.std.specs.FinMap.{get}
use Rattle.eb_outside.proofs.Laws.{KeepsOthers-with_file}
use Rattle.eb_session.specs.declared.sections.Published.{Published}
use Rattle.eb_session.specs.Machine.{State, IsSection, bytes_of, section_name}
use Rattle.eb_session.proofs.KeptFacts.{IsKept-empty, IsKept-refreshed, nothing_lives}
use Rattle.eb_session.proofs.sessions.Session.publish_section.Goals as goal

pub invariant_of-self-in_err-take_over : goal.invariant_of-self-in_err-take_over
invariant_of-self-in_err-take_over g c =
    let kept = c.in_err-take_over.ensures.kept in
    (c.take_over.ensures.types ∙ c.self.invariant.0, rw kept c.self.invariant.1, IsKept-empty _ (rw kept c.self.invariant.2.published) c.in_err-take_over.ensures.err)

pub invariant_of-self-2 : goal.invariant_of-self-2
invariant_of-self-2 g c =
    let published = c.in_ok-take_over.ensures.published in
    let bytes = c.requires.bytes ∙ ap (λ (s : State). bytes_of s.project.schema c.args.next.image) (sym c.self.view_is) in
    let section = subst (λ (s : State). IsSection s.project.schema c.args.next.image) (sym c.self.view_is) c.requires.section in (
      c.take_over.ensures.types ∙ c.self.invariant.0,
      rw published bytes,
      IsKept-refreshed _ c.self.inside.is_loaded c.self.inside.world.live c.args.next.image (ap (option_map (λ (p : Published). p.image)) published) section refl c.self.invariant.2.tags
          (nothing_lives _ c.self.invariant.2) c.in_ok-take_over.ensures.live,
    )

pub returns-in_err-take_over-clause-others : goal.returns-in_err-take_over-clause-others
returns-in_err-take_over-clause-others g c other apart =
    let named = c.as_str.ensures.value ∙ c.in_ok-name.ensures ∙ ap (λ (s : State). section_name (s.generation + 1)) c.self.view_is in
    ap (option_map (λ f. get f other)) c.in_ok-write.ensures.written ∙ KeepsOthers-with_file (g.H.Shelf.files c.args.shelf.now) c.as_str.result.now c.as_slice-2.result.now other (λ same. apart (same ∙ named))

pub returns-clause-others : goal.returns-clause-others
returns-clause-others g c other apart =
    let named = c.as_str.ensures.value ∙ c.in_ok-name.ensures ∙ ap (λ (s : State). section_name (s.generation + 1)) c.self.view_is in
    ap (option_map (λ f. get f other)) c.in_ok-write.ensures.written ∙ KeepsOthers-with_file (g.H.Shelf.files c.args.shelf.now) c.as_str.result.now c.as_slice-2.result.now other (λ same. apart (same ∙ named))
