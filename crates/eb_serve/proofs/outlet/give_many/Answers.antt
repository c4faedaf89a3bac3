use Rattle.std.proofs.Common.{◌≡◌, ap, sym, ◌∙◌, [], take}
use Rattle.eb_outside.specs.Streams.{appended}
use Rattle.eb_outside.proofs.Laws.{appended-nil}
use Rattle.eb_serve.proofs.FrontFacts.{IsFrontOf-take}
use Rattle.eb_serve.proofs.outlet.give_many.Goals as goal

pub returns-then-len-lt-MOST_REPLY_BYTES-clause-front : goal.returns-then-len-lt-MOST_REPLY_BYTES-clause-front
returns-then-len-lt-MOST_REPLY_BYTES-clause-front g c = ([], sym (appended-nil (appended (g.O.Sink.put c.args.sink.now) c.args.kept.now.items)))

pub returns-clause-front : goal.returns-clause-front
returns-clause-front g c =
    let put = g.O.Sink.put c.args.sink.now in
    let now = g.O.Sink.put c.give_kept.new.sink in
    let kept = c.args.kept.now.items in
    let given : appended now c.give_kept.new.kept.items ≡ appended put (take c.give_kept.ensures.front.0 kept) = ap (appended now) c.give_kept.ensures.kept ∙ appended-nil now ∙ c.give_kept.ensures.front.1 in
    rw given (IsFrontOf-take put kept c.give_kept.ensures.front.0)
