use Rattle.std.proofs.Common.{ap, ◌∙◌}
use Rattle.eb_session.specs.Machine.{performed, step}
use Rattle.eb_session.proofs.KeptFacts.{same_for_all}
use Rattle.eb_session.proofs.sessions.Session.perform.Goals as goal

pub returns-in_ok-dump-in-Dump-clause-step : goal.returns-in_ok-dump-in-Dump-clause-step
returns-in_ok-dump-in-Dump-clause-step g c =
    let state = c.args.self.now in
    same_for_all (performed c.args.request.now state) (step c.in_ok-dump-in-Dump.field-0.text state) (g.H.Shelf.files c.args.shelf.now) (λ files. ap (λ r. performed r state files) c.in-Dump.is ∙ c.in_ok-dump-in-Dump.ensures files)

pub returns-in_ok-print-in-Project-clause-step : goal.returns-in_ok-print-in-Project-clause-step
returns-in_ok-print-in-Project-clause-step g c =
    let state = c.args.self.now in
    same_for_all (performed c.args.request.now state) (step c.in_ok-print-in-Project.field-0.text state) (g.H.Shelf.files c.args.shelf.now) (λ files. ap (λ r. performed r state files) c.in-Project.is ∙ c.in_ok-print-in-Project.ensures files)

pub returns-in_ok-issues-in-Issues-clause-step : goal.returns-in_ok-issues-in-Issues-clause-step
returns-in_ok-issues-in-Issues-clause-step g c =
    let state = c.args.self.now in
    same_for_all (performed c.args.request.now state) (step c.in_ok-issues-in-Issues.field-0.text state) (g.H.Shelf.files c.args.shelf.now) (λ files. ap (λ r. performed r state files) c.in-Issues.is ∙ c.in_ok-issues-in-Issues.ensures files)

pub returns-in_ok-dump-in-Dump-clause-apart : goal.returns-in_ok-dump-in-Dump-clause-apart
returns-in_ok-dump-in-Dump-clause-apart g c other files = ap (λ r. performed r c.args.self.now files) c.in-Dump.is ∙ c.in_ok-dump-in-Dump.ensures files

pub returns-in_ok-print-in-Project-clause-apart : goal.returns-in_ok-print-in-Project-clause-apart
returns-in_ok-print-in-Project-clause-apart g c other files = ap (λ r. performed r c.args.self.now files) c.in-Project.is ∙ c.in_ok-print-in-Project.ensures files

pub returns-in_ok-issues-in-Issues-clause-apart : goal.returns-in_ok-issues-in-Issues-clause-apart
returns-in_ok-issues-in-Issues-clause-apart g c other files = ap (λ r. performed r c.args.self.now files) c.in-Issues.is ∙ c.in_ok-issues-in-Issues.ensures files
