use Rattle.std.proofs.Common.{◌+◌, ◌∷◌, [], ◌++◌, length, take, drop, ap, sym, ◌∙◌, arith, inl, inr}
use Rattle.std.proofs.Math.Seq.{take_all}
use Rattle.std.proofs.lemmas.List.{take-append-drop}
use Rattle.std.proofs.lemmas.Result.{err_from_is_err_and}
use Rattle.eb_outside.specs.Streams.{appended}
use Rattle.eb_serve.specs.Progress.{standing}
use Rattle.eb_serve.proofs.LineFacts.{IsLine-before, IsLine-found, IsLine-none}
use Rattle.eb_serve.proofs.ReaderFacts.{IsOver-none, none_at, IsCut-none, ReadsOn-part, GoesOn-longer, MeetsFault-longer, outside_alike}
use Rattle.eb_serve.proofs.readers.Reader.feed_front.Goals as goal

pub returns-then-self-eq0-clause-told : goal.returns-then-self-eq0-clause-told
returns-then-self-eq0-clause-told g c line is_at =
    IsOver-none g.R.Responder.answered (standing c.args.responder.now c.args.self.now line) c.args.bytes.now (g.H.Shelf.files c.args.shelf.now) (appended (g.O.Sink.put c.args.sink.now) c.args.kept.now.items) c.if-self-eq0.true
    (none_at c.args.self.now line c.requires.ready is_at c.if-self-eq0.true) (omega (arith, c.requires.room, c.requires.some)) c.requires.some

pub feed_line-requires-clause-inside : goal.feed_line-requires-clause-inside
feed_line-requires-clause-inside g c = IsLine-before c.args.bytes.now c.in-Some.end (λ at within is. c.in-Some.ensures.0.before at (omega arith) within is)

pub returns-in_err-feed_line-in-Some-clause-told : goal.returns-in_err-feed_line-in-Some-clause-told
returns-in_err-feed_line-in-Some-clause-told g c line is_at =
    let p = err_from_is_err_and c.from_residual.result c.from_residual.ensures.1 in
    let bytes = c.args.bytes.now in
    let end = c.in-Some.end in
    let found = IsLine-found bytes end c.in-Some.ensures.0.high (λ at within is. c.in-Some.ensures.0.before at (omega arith) within is) c.in-Some.ensures.1 in
    rw (p.1, p.2) (GoesOn-longer g.R.Responder.answered c.in_err-feed_line-in-Some.field-0.0 (standing c.args.responder.now c.args.self.now line) c.feed_line.new.responder c.feed_line.new.self (take end bytes ++ 10 ∷ []) (drop (end + 1) bytes) bytes
    (g.H.Shelf.files c.args.shelf.now) (g.H.Shelf.files c.feed_line.new.shelf) (appended (g.O.Sink.put c.args.sink.now) c.args.kept.now.items) (appended (g.O.Sink.put c.feed_line.new.sink) c.feed_line.new.kept.items)
    (sym (take-append-drop (end + 1) bytes) ∙ ap (λ l. l ++ drop (end + 1) bytes) found) (c.in_err-feed_line-in-Some.ensures.told line is_at))

pub returns-in_err-feed_line-in-Some-clause-fails : goal.returns-in_err-feed_line-in-Some-clause-fails
returns-in_err-feed_line-in-Some-clause-fails g c line is_at failed =
    let p = err_from_is_err_and c.from_residual.result c.from_residual.ensures.1 in
    let bytes = c.args.bytes.now in
    let end = c.in-Some.end in
    let found = IsLine-found bytes end c.in-Some.ensures.0.high (λ at within is. c.in-Some.ensures.0.before at (omega arith) within is) c.in-Some.ensures.1 in
    elim (c.in_err-feed_line-in-Some.ensures.fails line is_at (outside_alike c.in_err-feed_line-in-Some.field-0.0 (rw (p.1, p.2) at failed))) [
      | inl rose ↦ inl rose
      | inr meets ↦ inr (MeetsFault-longer g.R.Responder.answered g.R.Responder.may_fail (standing c.args.responder.now c.args.self.now line) (take end bytes ++ 10 ∷ []) (drop (end + 1) bytes) bytes (g.H.Shelf.files c.args.shelf.now)
          (appended (g.O.Sink.put c.args.sink.now) c.args.kept.now.items) (appended (g.O.Sink.put c.feed_line.new.sink) c.feed_line.new.kept.items) (sym (take-append-drop (end + 1) bytes) ∙ ap (λ l. l ++ drop (end + 1) bytes) found) meets)
    ]

pub returns-in_ok-feed_line-in-Some-clause-told : goal.returns-in_ok-feed_line-in-Some-clause-told
returns-in_ok-feed_line-in-Some-clause-told g c line is_at =
    let bytes = c.args.bytes.now in
    let end = c.in-Some.end in
    let found = IsLine-found bytes end c.in-Some.ensures.0.high (λ at within is. c.in-Some.ensures.0.before at (omega arith) within is) c.in-Some.ensures.1 in
    rw found (c.in_ok-feed_line-in-Some.ensures.told line is_at)

pub keep-requires-clause-inside : goal.keep-requires-clause-inside
keep-requires-clause-inside g c = IsLine-none c.args.bytes.now (λ at within is. c.in-None.ensures at (omega arith) within is)

pub returns-in_err-keep-in-None-clause-told : goal.returns-in_err-keep-in-None-clause-told
returns-in_err-keep-in-None-clause-told g c line is_at =
    let p = err_from_is_err_and c.from_residual-in_err-keep-in-None.result c.from_residual-in_err-keep-in-None.ensures.1 in
    rw (p.1, p.2) (IsCut-none g.R.Responder.answered (standing c.args.responder.now c.args.self.now line) c.args.bytes.now (g.H.Shelf.files c.args.shelf.now) (appended (g.O.Sink.put c.args.sink.now) c.args.kept.now.items))

pub returns-in_ok-keep-in-None-clause-told : goal.returns-in_ok-keep-in-None-clause-told
returns-in_ok-keep-in-None-clause-told g c line is_at =
    let bytes = c.args.bytes.now in
    let all = take_all (length bytes) bytes (omega arith) in
    rw all (ReadsOn-part g.R.Responder.answered c.args.responder.now c.args.self.now c.keep.new.self line bytes (g.H.Shelf.files c.args.shelf.now) (appended (g.O.Sink.put c.args.sink.now) c.args.kept.now.items)
    c.in_ok-keep-in-None.ensures.limits.0 c.in_ok-keep-in-None.ensures.limits.1 (c.in_ok-keep-in-None.ensures.at line is_at))
