use Rattle.std.proofs.Common.{◌≡◌, ap, sym, ◌∙◌, true, false, arith}
use Rattle.std.proofs.lemmas.Result.{err_from_is_err_and}
use Rattle.eb_outside.specs.Streams.{appended}
use Rattle.eb_serve.specs.Machines.{ended}
use Rattle.eb_serve.specs.Progress.{first_standing, whole}
use Rattle.eb_run.specs.Answering.{answering}
use Rattle.eb_run.specs.Told.{told}
use Rattle.eb_run.specs.Words.{is_form}
use Rattle.eb_run.proofs.ToldFacts.{not_three, told-no_form, told-refused, told-opened, IsFront-told, Follows-given, Follows-same}
use Rattle.eb_run.proofs.runs.outcome.Goals as goal

pub returns-in_err-give_all-clause-told : goal.returns-in_err-give_all-clause-told
returns-in_err-give_all-clause-told g c =
    let p = err_from_is_err_and c.from_residual.result c.from_residual.ensures.1 in
    let files = g.H.Shelf.files c.args.shelf.now in
    let left = g.I.Source.left c.args.source.now in
    let base = g.O.Sink.put c.args.sink.now in
    let form : is_form c.args.words.now ≡ false = grind arith in
    let same = told-no_form c.args.limits.now.lines c.args.limits.now.bytes c.args.words.now files left base form ∙ ap (λ t. ended 2 files left (appended base t)) (sym c.usage.ensures) in
    rw (p.1, p.2) (Follows-given c.in_err-give_all.field-0.0 2 c.in_err-give_all.ensures.front.0 c.usage.result.now (told c.args.limits.now.lines c.args.limits.now.bytes c.args.words.now files left base) files files left base (g.O.Sink.put c.give_all.new.sink)
    same c.in_err-give_all.ensures.front.1)

pub returns-then-not-is_session-clause-told : goal.returns-then-not-is_session-clause-told
returns-then-not-is_session-clause-told g c =
    let files = g.H.Shelf.files c.args.shelf.now in
    let left = g.I.Source.left c.args.source.now in
    let base = g.O.Sink.put c.args.sink.now in
    let form : is_form c.args.words.now ≡ false = grind arith in
    told-no_form c.args.limits.now.lines c.args.limits.now.bytes c.args.words.now files left base form ∙ ap (λ t. ended 2 files left (appended base t)) (sym c.usage.ensures)
    ∙ ap (ended 2 files left) (sym c.in_ok-give_all.ensures.ok)

pub returns-in_err-give_all-in-Err-Refused-clause-told : goal.returns-in_err-give_all-in-Err-Refused-clause-told
returns-in_err-give_all-in-Err-Refused-clause-told g c =
    let p = err_from_is_err_and c.from_residual-in_err-give_all-in-Err-Refused.result c.from_residual-in_err-give_all-in-Err-Refused.ensures.1 in
    let files = g.H.Shelf.files c.args.shelf.now in
    let left = g.I.Source.left c.args.source.now in
    let base = g.O.Sink.put c.args.sink.now in
    let lines = c.args.limits.now.lines in
    let bytes = c.args.limits.now.bytes in
    let form : is_form c.args.words.now ≡ true = grind arith in
    let refused = rw c.in-Err-Refused.field-0-is at c.in-Err-Refused.ensures.opened in
    let said : c.bytes.result.now ≡ c.in-Err-Refused.line = c.bytes.ensures ∙ c.in-Err-Refused.line-is in
    let same = told-refused lines bytes c.args.words.now c.in-Err-Refused.line files left base form refused ∙ ap (λ t. ended 3 files left (appended base t)) (sym said) in
    rw (p.1, p.2) (Follows-given c.in_err-give_all-in-Err-Refused.field-0.0 3 c.in_err-give_all-in-Err-Refused.ensures.front.0 c.bytes.result.now (told lines bytes c.args.words.now files left base)
    files (g.H.Shelf.files c.open_session.new.shelf) left base (g.O.Sink.put c.give_all-in-Err-Refused.new.sink) same c.in_err-give_all-in-Err-Refused.ensures.front.1)

pub returns-in-Ok-clause-told : goal.returns-in-Ok-clause-told
returns-in-Ok-clause-told g c =
    let files = g.H.Shelf.files c.args.shelf.now in
    let left = g.I.Source.left c.args.source.now in
    let base = g.O.Sink.put c.args.sink.now in
    let lines = c.args.limits.now.lines in
    let bytes = c.args.limits.now.bytes in
    let form : is_form c.args.words.now ≡ true = grind arith in
    let same = told-opened lines bytes c.args.words.now c.in-Ok.session files left base form c.in-Ok.ensures.opened ∙ ap (λ f. whole answering (first_standing lines bytes c.in-Ok.session) f left base) (sym c.in-Ok.ensures.files) in
    Follows-same c.answer_lines.result (told lines bytes c.args.words.now files left base) (whole answering (first_standing lines bytes c.in-Ok.session) (g.H.Shelf.files c.open_session.new.shelf) left base)
    (g.H.Shelf.files c.answer_lines.new.shelf) (g.I.Source.left c.answer_lines.new.source) (g.O.Sink.put c.answer_lines.new.sink) same c.answer_lines.ensures.told

pub returns-in_ok-give_all-in-Err-Refused-clause-told : goal.returns-in_ok-give_all-in-Err-Refused-clause-told
returns-in_ok-give_all-in-Err-Refused-clause-told g c =
    let files = g.H.Shelf.files c.args.shelf.now in
    let left = g.I.Source.left c.args.source.now in
    let base = g.O.Sink.put c.args.sink.now in
    let lines = c.args.limits.now.lines in
    let bytes = c.args.limits.now.bytes in
    let form : is_form c.args.words.now ≡ true = grind arith in
    let refused = rw c.in-Err-Refused.field-0-is at c.in-Err-Refused.ensures.opened in
    let said : c.bytes.result.now ≡ c.in-Err-Refused.line = c.bytes.ensures ∙ c.in-Err-Refused.line-is in
    told-refused lines bytes c.args.words.now c.in-Err-Refused.line files left base form refused ∙ ap (λ t. ended 3 files left (appended base t)) (sym said)
    ∙ ap (λ f. ended 3 f left (appended base c.bytes.result.now)) (sym c.in-Err-Refused.ensures.files) ∙ ap (ended 3 (g.H.Shelf.files c.open_session.new.shelf) left) (sym c.in_ok-give_all-in-Err-Refused.ensures.ok)

pub returns-in-Err-Shelf-clause-told : goal.returns-in-Err-Shelf-clause-told
returns-in-Err-Shelf-clause-told g c =
    IsFront-told c.args.limits.now.lines c.args.limits.now.bytes c.args.words.now (g.H.Shelf.files c.args.shelf.now) (g.I.Source.left c.args.source.now) (g.O.Sink.put c.args.sink.now)

pub returns-in-Err-Memory-clause-told : goal.returns-in-Err-Memory-clause-told
returns-in-Err-Memory-clause-told g c =
    IsFront-told c.args.limits.now.lines c.args.limits.now.bytes c.args.words.now (g.H.Shelf.files c.args.shelf.now) (g.I.Source.left c.args.source.now) (g.O.Sink.put c.args.sink.now)

pub returns-in-Ok-clause-untouched : goal.returns-in-Ok-clause-untouched
returns-in-Ok-clause-untouched g c touched =
    let form : is_form c.args.words.now ≡ true = grind arith in
    absurd (not_three (is_form c.args.words.now) c.answer_lines.result form c.answer_lines.ensures.status touched)
