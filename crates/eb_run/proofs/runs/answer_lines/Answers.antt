use Rattle.std.proofs.Common.{◌≡◌, ◌+◌, inl, inr, ap, ◌∙◌, arith}
use Rattle.std.proofs.lemmas.Result.{err_from_is_err_and}
use Rattle.eb_serve.specs.Progress.{first_standing, whole}
use Rattle.eb_run.specs.Answering.{answering, IsNextSection}
use Rattle.eb_session.specs.Machine.{State}
use Rattle.eb_serve.proofs.RemainFacts.{KeepsBut-fewer}
use Rattle.eb_run.proofs.CountFacts.{first_left}
use Rattle.eb_run.proofs.FaultFacts.{HasAnswered-opened, IsAtPublication-opened}
use Rattle.eb_run.proofs.ToldFacts.{Follows-serves, stops_alike}
use Rattle.eb_run.proofs.runs.answer_lines.Goals as goal

pub serve-served-requires : goal.serve-served-requires
serve-served-requires g c = rw c.of-answering.ensures (first_left c.args.session c.args.limits.now.lines (omega arith) c.requires.generation c.requires.made)

pub returns-in_err-served-clause-told : goal.returns-in_err-served-clause-told
returns-in_err-served-clause-told g c =
    let p = err_from_is_err_and c.from_residual.result c.from_residual.ensures.1 in
    let all = whole answering (first_standing c.args.limits.now.lines c.args.limits.now.bytes c.args.session) (g.H.Shelf.files c.args.shelf.now) (g.I.Source.left c.args.source.now) (g.O.Sink.put c.args.sink.now) in
    rw (p.1, p.2) (Follows-serves c.in_err-served.field-0.0 all (g.H.Shelf.files c.serve-served.new.shelf) (g.I.Source.left c.serve-served.new.source) (g.O.Sink.put c.serve-served.new.sink) (rw c.of-answering.ensures at c.in_err-served.ensures.told))

pub returns-in_err-served-clause-causes : goal.returns-in_err-served-clause-causes
returns-in_err-served-clause-causes g c failed =
    let p = err_from_is_err_and c.from_residual.result c.from_residual.ensures.1 in
    elim (c.in_err-served.ensures.causes (stops_alike c.in_err-served.field-0.0 (rw (p.1, p.2) at failed))) [
      | inl rose ↦ inl rose
      | inr other ↦ elim other [
        | inl source ↦ inr (inl (
          source.0,
          HasAnswered-opened c.args.session (g.H.Shelf.files c.args.shelf.now) (g.I.Source.left c.args.source.now) (g.I.Source.left c.serve-served.new.source) (g.O.Sink.put c.args.sink.now) (g.O.Sink.put c.serve-served.new.sink)
              c.requires.opens (rw c.of-answering.ensures at source.1),
        ))
        | inr shelf ↦ inr (inr (
          shelf.0,
          IsAtPublication-opened c.args.limits.now.lines c.args.limits.now.bytes c.args.session (g.H.Shelf.files c.args.shelf.now) (g.I.Source.left c.args.source.now) (g.O.Sink.put c.args.sink.now) (g.O.Sink.put c.serve-served.new.sink)
              c.requires.opens (rw c.of-answering.ensures at shelf.1),
        ))
      ]
    ]

pub returns-clause-told : goal.returns-clause-told
returns-clause-told g c = rw c.of-answering.ensures at (c.in_ok-served.ensures.told)

pub returns-in_err-served-clause-names : goal.returns-in_err-served-clause-names
returns-in_err-served-clause-names g c = KeepsBut-fewer IsNextSection (c.of-answering.result.generation + c.args.limits.now.lines) c.args.limits.now.lines (g.H.Shelf.files c.args.shelf.now) (g.H.Shelf.files c.serve-served.new.shelf)
    (let none : c.of-answering.result.generation ≡ 0 = ap (λ (s : State). s.generation) c.of-answering.ensures ∙ c.requires.generation in omega arith) c.serve-served.ensures.names

pub returns-clause-names : goal.returns-clause-names
returns-clause-names g c = KeepsBut-fewer IsNextSection (c.of-answering.result.generation + c.args.limits.now.lines) c.args.limits.now.lines (g.H.Shelf.files c.args.shelf.now) (g.H.Shelf.files c.serve-served.new.shelf)
    (let none : c.of-answering.result.generation ≡ 0 = ap (λ (s : State). s.generation) c.of-answering.ensures ∙ c.requires.generation in omega arith) c.serve-served.ensures.names
