-- The whole run by the form of its words and by what its folder holds.
use Rattle.std.proofs.Math.Seq.{take_all}
use Rattle.std.proofs.lemmas.Bool.Decides.{nat_tests}
use Rattle.std.proofs.Common.{arith, nat_lt, length, ◌≤◌, ◌⊎◌, inl, inr, ◌≡◌, ℕ, Bool, true, false, List, refl, sym, ap, ◌∙◌, subst}
use Rattle.std.specs.Prelude.{Option, None, Some, IfSome, Result, Ok, Err, IfOk, take}
use Rattle.eb_outside.specs.Shelves.{Files}
use Rattle.eb_outside.specs.Streams.{appended}
use Rattle.eb_session.specs.Machine.{State}
use Rattle.eb_session.specs.Opening.{opened}
use Rattle.eb_serve.specs.Lines.{pieces, all_lines, plan_where, plan_of, plan}
use Rattle.eb_run.specs.Words.{is_form, usage_text}
use Rattle.eb_serve.specs.Machines.{End, ended}
use Rattle.eb_serve.specs.Machines as machines
use Rattle.eb_serve.specs.Progress.{first_standing, whole, IsFront, Serves}
use Rattle.eb_serve.specs.Stops.{stop_of_outside}
use Rattle.eb_serve.specs.declared.stops.Stop.{Stop}
use Rattle.eb_serve.specs.declared.stops.Stop.TheVariants.{Outside, Memory, Limit}
use Rattle.eb_run.specs.Answering.{answering}
use Rattle.eb_run.specs.Told.{replay, opened_end, run_end, told, Follows, WhereTold, IsWithin}
use Rattle.eb_outside.specs.declared.errors.OutsideError.{OutsideError}
use Rattle.eb_outside.specs.declared.errors.OutsideError.TheVariants as outside
use Rattle.eb_serve.proofs.WholeFacts.{same_Some}
use Rattle.eb_serve.proofs.FrontFacts.{IsFront-same, IsFront-of, IsFront-ended, IsFrontOf-take}

pub told-no_form : (lines bytes : ℕ) (words : List (List ℕ)) (files : Option Files) (left held : Option (List ℕ)) → is_form words ≡ false → told lines bytes words files left held ≡ ended 2 files left (appended held usage_text)
unfolding told
told-no_form lines bytes words None left held form = refl
told-no_form lines bytes words (Some files) None held form = refl
told-no_form lines bytes words (Some files) (Some left) None form = refl
told-no_form lines bytes words (Some files) (Some left) (Some held) form = ap (λ b. Some (run_end b lines bytes files left held)) form

pub told-refused : (lines bytes : ℕ) (words : List (List ℕ)) (line : List ℕ) (files : Option Files) (left held : Option (List ℕ)) → is_form words ≡ true → IfSome files (λ f. opened f ≡ Err line) → told lines bytes words files left held ≡ ended 3 files left (appended held line)
unfolding told
told-refused lines bytes words line None left held form refused = refl
told-refused lines bytes words line (Some files) None held form refused = refl
told-refused lines bytes words line (Some files) (Some left) None form refused = refl
told-refused lines bytes words line (Some files) (Some left) (Some held) form refused =
    ap (λ b. Some (run_end b lines bytes files left held)) form ∙ ap (λ o. Some (opened_end lines bytes o files left held)) refused

pub told-opened : (lines bytes : ℕ) (words : List (List ℕ)) (state : State) (files : Option Files) (left held : Option (List ℕ)) → is_form words ≡ true → IfSome files (λ f. opened f ≡ Ok state) → told lines bytes words files left held ≡ whole answering (first_standing lines bytes state) files left held
unfolding told
told-opened lines bytes words state None left held form opens = refl
told-opened lines bytes words state (Some files) None held form opens = refl
told-opened lines bytes words state (Some files) (Some left) None form opens = refl
told-opened lines bytes words state (Some files) (Some left) (Some held) form opens =
    ap (λ b. Some (run_end b lines bytes files left held)) form ∙ ap (λ o. Some (opened_end lines bytes o files left held)) opens

opened_front : (lines bytes : ℕ) (found : Result State (List ℕ)) (files : Files) (left held : List ℕ) → IsFront (Some held) (Some (opened_end lines bytes found files left held))
unfolding machines.session_end
opened_front lines bytes (Err line) files left held = (held, line, refl, refl)
opened_front lines bytes (Ok state) files left held = (held, (replay (plan lines bytes left).lines state files).reply, refl, refl)

run_front : (form : Bool) (lines bytes : ℕ) (files : Files) (left held : List ℕ) → IsFront (Some held) (Some (run_end form lines bytes files left held))
run_front false lines bytes files left held = (held, usage_text, refl, refl)
run_front true lines bytes files left held = opened_front lines bytes (opened files) files left held

-- what the sink held before the run is a front of what it holds at its end
pub IsFront-told : (lines bytes : ℕ) (words : List (List ℕ)) (files : Option Files) (left held : Option (List ℕ)) → IsFront held (told lines bytes words files left held)
unfolding told
IsFront-told lines bytes words None left held = tt
IsFront-told lines bytes words (Some files) None held = tt
IsFront-told lines bytes words (Some files) (Some left) None = tt
IsFront-told lines bytes words (Some files) (Some left) (Some held) = run_front (is_form words) lines bytes files left held

cut : (status n : ℕ) (text : List ℕ) (all : Option End) (files : Option Files) (left base now : Option (List ℕ)) → all ≡ ended status files left (appended base text) → now ≡ appended base (take n text) → IsFront now all
cut status n text all files left base now same given =
    let whole = appended base text in
    rw given (IsFront-of (appended base (take n text)) whole all (IsFrontOf-take base text n) (IsFront-same whole all (ended status files left whole) same (IsFront-ended status files left whole)))

-- where giving a last text failed, the sink holds a front of it
pub Follows-given : (error : OutsideError) (status n : ℕ) (text : List ℕ) (all : Option End) (files later : Option Files) (left base now : Option (List ℕ))
    → all ≡ ended status files left (appended base text) → now ≡ appended base (take n text) → Follows (Err (stop_of_outside error)) all later left now
Follows-given outside.Fault status n text all files later left base now same given = cut status n text all files left base now same given
Follows-given outside.Memory status n text all files later left base now same given = cut status n text all files left base now same given

pub Follows-same : (result : Result ℕ Stop) (a b : Option End) (files : Option Files) (left held : Option (List ℕ)) → a ≡ b → Follows result b files left held → Follows result a files left held
Follows-same result a b files left held same follows = subst (λ e. Follows result e files left held) (sym same) follows

within_plan : (lines bytes : ℕ) (input : List ℕ) → length input ≤ bytes → length (all_lines (pieces input)) ≤ lines → (plan lines bytes input).status ≡ 0
unfolding plan
within_plan lines bytes input bytes_fit lines_fit =
    let over : nat_lt lines (length (all_lines (pieces input))) ≡ false = grind (arith, nat_tests) in
    let more : nat_lt bytes (length input) ≡ false = grind (arith, nat_tests) in
    ap (λ i. (plan_of lines bytes input (pieces i)).status) (take_all bytes input bytes_fit)
    ∙ ap (λ t. (plan_where t (nat_lt bytes (length input)) lines (pieces input)).status) over
    ∙ ap (λ t. (plan_where false t lines (pieces input)).status) more

status_of : (status : ℕ) (end : End) (files : Option Files) (left held : Option (List ℕ)) → Some end ≡ ended status files left held → end.status ≡ status
status_of status end None left held e = absurd (cc e)
status_of status end (Some files) None held e = absurd (cc e)
status_of status end (Some files) (Some left) None e = absurd (cc e)
status_of status end (Some files) (Some left) (Some held) e = ap (λ (e : End). e.status) (same_Some _ _ e)

done_status : (lines bytes status : ℕ) (words : List (List ℕ)) (files : Files) (input held : List ℕ) (later : Option Files) (left now : Option (List ℕ)) → told lines bytes words (Some files) (Some input) (Some held) ≡ ended status later left now → IsWithin lines bytes words files input → status ≡ 0
unfolding told machines.session_end
done_status lines bytes status words files input held later left now same within =
    sym (status_of status (run_end (is_form words) lines bytes files input held) later left now same)
    ∙ ap (λ b. (run_end b lines bytes files input held).status) within.form
    ∙ ap (λ o. (opened_end lines bytes o files input held).status) within.opens
    ∙ within_plan lines bytes input within.bytes_fit within.lines_fit

-- with words that are a form, a folder that opens and an input that keeps to the limits, the status is 0
pub WhereTold-done : (lines bytes status : ℕ) (words : List (List ℕ)) (files later : Option Files) (input left held now : Option (List ℕ)) → told lines bytes words files input held ≡ ended status later left now
    → WhereTold files input held (λ f i h. IsWithin lines bytes words f i → (status ≡ 4) ⊎ (status ≡ 0))
WhereTold-done lines bytes status words None later input left held now same = tt
WhereTold-done lines bytes status words (Some files) later None left held now same = tt
WhereTold-done lines bytes status words (Some files) later (Some input) left None now same = tt
WhereTold-done lines bytes status words (Some files) later (Some input) left (Some held) now same = λ within. inr (done_status lines bytes status words files input held later left now same within)

ok_same : (a b : ℕ) → ◌≡◌ {A = Result ℕ Stop} (Ok a) (Ok b) → a ≡ b
ok_same a b same = cc

-- words that are a form, and a session that was answered
pub not_three : (form : Bool) (result : Result ℕ Stop) → form ≡ true → IfOk result (λ status. status ≡ 0) → (form ≡ false) ⊎ (result ≡ Ok 3) → ⊥
not_three form (Err stop) good zero touched = elim touched [ inl formless ↦ cc | inr refused ↦ cc ]
not_three form (Ok status) good zero touched = elim touched [ inl formless ↦ cc | inr refused ↦ (let same : status ≡ 3 = ok_same status 3 refused in omega arith) ]

-- lines that were served end a run alike
pub Follows-serves : (stop : Stop) (all : Option End) (files : Option Files) (left held : Option (List ℕ)) → Serves {T = Unit {0}} (Err stop) all files left held → Follows (Err stop) all files left held
Follows-serves Outside all files left held serves = serves
Follows-serves Memory all files left held serves = serves
Follows-serves Limit all files left held serves = serves

err_same : (a b : Stop) → ◌≡◌ {A = Result ℕ Stop} (Err a) (Err b) → a ≡ b
err_same a b same = cc

-- a status that wasn't reached for the outside is that of lines that weren't served for it
pub stops_alike : (stop : Stop) → ◌≡◌ {A = Result ℕ Stop} (Err stop) (Err Outside) → ◌≡◌ {A = Result (Unit {0}) Stop} (Err stop) (Err Outside)
stops_alike stop same = ap Err (err_same stop Outside same)
