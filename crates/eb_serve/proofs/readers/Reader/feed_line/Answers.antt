use Rattle.std.proofs.Common.{◌∷◌, [], ◌++◌, ap, sym, arith, inr, refl, Ok}
use Rattle.std.proofs.lemmas.Result.{err_from_is_err_and}
use Rattle.eb_outside.specs.Streams.{appended}
use Rattle.eb_outside.proofs.Laws.{appended-nil}
use Rattle.eb_serve.specs.Progress.{standing}
use Rattle.eb_serve.proofs.ReaderFacts.{length-at, IsCut-none, ReadsOn-part, ReadsOn-then, IsCut-given, GoesOn-stopped, GoesOn-outside, MeetsFault-here, MeetsFault-after, may_fail-kept}
use Rattle.eb_serve.proofs.readers.Reader.feed_line.Goals as goal

pub returns-in_err-keep-clause-told : goal.returns-in_err-keep-clause-told
returns-in_err-keep-clause-told g c line is_at =
    let p = err_from_is_err_and c.from_residual.result c.from_residual.ensures.1 in
    rw (p.1, p.2) (IsCut-none g.R.Responder.answered (standing c.args.responder.now c.args.self.now line) (c.args.part.now ++ 10 ∷ []) (g.H.Shelf.files c.args.shelf.now) (appended (g.O.Sink.put c.args.sink.now) c.args.kept.now.items))

pub returns-in_err-end_line-clause-told : goal.returns-in_err-end_line-clause-told
returns-in_err-end_line-clause-told g c line is_at =
    let p = err_from_is_err_and c.from_residual-in_err-end_line.result c.from_residual-in_err-end_line.ensures.1 in
    let files = g.H.Shelf.files c.args.shelf.now in
    let held = appended (g.O.Sink.put c.args.sink.now) c.args.kept.now.items in
    let start = standing c.args.responder.now c.args.self.now line in
    let taken = c.args.part.now ++ 10 ∷ [] in
    rw (p.1, p.2, c.in_err-end_line.ensures.err) (GoesOn-stopped g.R.Responder.answered (Unit {0}) c.in_err-end_line.field-0.0 start c.end_line.new.responder c.end_line.new.self taken files (g.H.Shelf.files c.end_line.new.shelf) held held c.in_err-end_line.ensures.no_limit
    (IsCut-none g.R.Responder.answered start taken files held))

pub returns-in_err-end_line-clause-fails : goal.returns-in_err-end_line-clause-fails
returns-in_err-end_line-clause-fails g c line is_at failed =
    let p = err_from_is_err_and c.from_residual-in_err-end_line.result c.from_residual-in_err-end_line.ensures.1 in
    let files = g.H.Shelf.files c.args.shelf.now in
    let put = g.O.Sink.put c.args.sink.now in
    let held = appended put c.args.kept.now.items in
    let now = appended put c.end_line.new.kept.items in
    let part = c.args.part.now in
    let longer = line ++ part in
    let reader = c.keep.new.self in
    let there = c.in_ok-keep.ensures.at line is_at in
    let start = standing c.args.responder.now c.args.self.now line in
    let mid = standing c.args.responder.now reader longer in
    let reads = ReadsOn-part g.R.Responder.answered c.args.responder.now c.args.self.now reader line part files held c.in_ok-keep.ensures.limits.0 c.in_ok-keep.ensures.limits.1 there in
    let size = length-at reader longer there in
    inr (MeetsFault-after g.R.Responder.answered g.R.Responder.may_fail start mid part (10 ∷ []) [] (part ++ 10 ∷ []) [] files files held held now reads.reads refl (sym (appended-nil held))
    (MeetsFault-here g.R.Responder.answered g.R.Responder.may_fail mid files held now there.clean (omega (arith, c.in_ok-keep.ensures.limits.0, c.requires.some)) (omega (arith, size, c.in_ok-keep.ensures.limits.1, c.in_ok-keep.ensures.all, c.requires.room))
    (may_fail-kept g.R.Responder.may_fail reader longer g.met.R.Responder.none_long c.in_ok-keep.ensures.ready there (c.in_err-end_line.ensures.fails (rw (p.1, p.2) at failed))) (ap (appended put) c.in_err-end_line.ensures.err)))

pub returns-in_err-give_many-clause-told : goal.returns-in_err-give_many-clause-told
returns-in_err-give_many-clause-told g c line is_at =
    let p = err_from_is_err_and c.from_residual-in_err-give_many.result c.from_residual-in_err-give_many.ensures.1 in
    let m = g.R.Responder.answered in
    let put = g.O.Sink.put c.args.sink.now in
    let held = appended put c.args.kept.now.items in
    let files = g.H.Shelf.files c.args.shelf.now in
    let later = g.H.Shelf.files c.end_line.new.shelf in
    let start = standing c.args.responder.now c.args.self.now line in
    let part = c.args.part.now in
    let there = c.in_ok-keep.ensures.at line is_at in
    let between = appended put c.end_line.new.kept.items in
    let all = appended (g.O.Sink.put c.give_many.new.sink) c.give_many.new.kept.items in
    let first = ReadsOn-part m c.args.responder.now c.args.self.now c.keep.new.self line part files held c.in_ok-keep.ensures.limits.0 c.in_ok-keep.ensures.limits.1 there in
    let reads = ReadsOn-then m start c.args.responder.now c.end_line.new.responder c.keep.new.self c.end_line.new.self part (10 ∷ []) files files later held held between first (c.in_ok-end_line.ensures.told (line ++ part) put there) in
    rw (p.1, p.2) (GoesOn-outside m (Unit {0}) c.in_err-give_many.field-0.0 start c.end_line.new.responder c.end_line.new.self (part ++ 10 ∷ []) files later held all
    (IsCut-given m (Unit {0}) (Ok tt) start c.end_line.new.responder c.end_line.new.self (part ++ 10 ∷ []) files later held between all reads c.in_err-give_many.ensures.front))

pub returns-clause-told : goal.returns-clause-told
returns-clause-told g c line is_at =
    let m = g.R.Responder.answered in
    let put = g.O.Sink.put c.args.sink.now in
    let held = appended put c.args.kept.now.items in
    let files = g.H.Shelf.files c.args.shelf.now in
    let later = g.H.Shelf.files c.end_line.new.shelf in
    let start = standing c.args.responder.now c.args.self.now line in
    let part = c.args.part.now in
    let there = c.in_ok-keep.ensures.at line is_at in
    let between = appended put c.end_line.new.kept.items in
    let first = ReadsOn-part m c.args.responder.now c.args.self.now c.keep.new.self line part files held c.in_ok-keep.ensures.limits.0 c.in_ok-keep.ensures.limits.1 there in
    rw c.in_ok-give_many.ensures.ok (ReadsOn-then m start c.args.responder.now c.end_line.new.responder c.keep.new.self c.end_line.new.self part (10 ∷ []) files files later held held between first (c.in_ok-end_line.ensures.told (line ++ part) put there))
