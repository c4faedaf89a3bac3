-- What stays as it was, step by step.
use Rattle.std.proofs.Common.{◌≡◌, ℕ, ◌+◌, ◌-◌, ◌<◌, ◌≤◌, List, ◌++◌, length, take, sym, ap, ◌∙◌, arith, length-append}
use Rattle.std.proofs.lemmas.List.{length-take}
use Rattle.std.specs.Prelude.{Option}
use Rattle.eb_outside.specs.Shelves.{Files}
use Rattle.eb_serve.specs.Machines.{Machine}
use Rattle.eb_serve.specs.Progress.{with_feeds, IsReady, first_standing, ReadsOn}
use Rattle.eb_serve.specs.Remains.{KeepsBut, IsWritten, TakesAtMost}
use Rattle.eb_serve.specs.declared.readers.Reader.{Reader}
use Rattle.eb_serve.proofs.ReaderFacts.{length-at}
use Rattle.eb_serve.proofs.WholeFacts.{behind_taken}

pub KeepsBut-then : (some : List ℕ → Type 0) (a b c : Option Files) → KeepsBut some a b → KeepsBut some b c → KeepsBut some a c
KeepsBut-then some a b c x y name apart = y name apart ∙ x name apart

-- the next write is one of the first so many
pub KeepsBut-next : (names : ℕ → List ℕ → Type 0) (write count : ℕ) (a b : Option Files) → write < count → KeepsBut (names write) a b → KeepsBut (IsWritten names count) a b
KeepsBut-next names write count a b within x name apart = x name (λ is. apart (record { write = write; within = within; named = is }))

-- fewer writes change fewer names
pub KeepsBut-fewer : (names : ℕ → List ℕ → Type 0) (few many : ℕ) (a b : Option Files) → few ≤ many → KeepsBut (IsWritten names few) a b → KeepsBut (IsWritten names many) a b
KeepsBut-fewer names few many a b less x name apart = x name (λ is. apart (record { write = is.write; within = omega (arith, is.within); named = is.named }))

-- what was read is within the limit on bytes
pub taken_within : {S : Type 0} (m : Machine S) (lines bytes : ℕ) (first state : S) (reader : Reader) (taken : List ℕ) (before after : Option Files) (held now : Option (List ℕ)) → ReadsOn m (first_standing lines bytes first) state reader taken before after held now → IsReady reader
    → length taken + (reader.bytes - (length reader.line.items + reader.skipped)) ≤ bytes
taken_within m lines bytes first state reader taken before after held now x ready =
    let r = x.reads in
    let size : length taken ≡ length (with_feeds r.lines) + length x.line = ap length r.parts ∙ length-append (with_feeds r.lines) x.line in
    let pending : length x.line ≡ length reader.line.items + reader.skipped = length-at reader x.line x.is_at in
    omega (arith, r.bytes_left, ready.room)

-- what was read before a call of the source, and what that took
pub TakesAtMost-more : (taken more : List ℕ) (bytes : ℕ) (old new : Option (List ℕ)) → old ≡ behind_taken (taken ++ more) new → length taken + length more ≤ bytes → TakesAtMost bytes old new
TakesAtMost-more taken more bytes old new parts few = record { taken = taken ++ more; parts = parts; few = (let size : length (taken ++ more) ≡ length taken + length more = length-append taken more in omega arith) }

pub TakesAtMost-none : (taken : List ℕ) (bytes : ℕ) (old mid new : Option (List ℕ)) → old ≡ behind_taken taken mid → new ≡ mid → length taken ≤ bytes → TakesAtMost bytes old new
TakesAtMost-none taken bytes old mid new parts same few = record { taken = taken; parts = parts ∙ ap (behind_taken taken) (sym same); few = few }

pub length_front : (count : ℕ) (bytes : List ℕ) → length (take count bytes) ≤ count
length_front count bytes = let size = length-take count bytes in omega (arith, size)
