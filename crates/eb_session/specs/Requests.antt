-- Which request a line is, or why it is none.
use Rattle.std.specs.Prelude.{◌≡◌, ⊤, ℕ, Bool, ◌||◌, nat_le, if◌then◌else◌, Option, None, Some, option_and_then, Result, Ok, Err, List, [], ◌∷◌, length, codes}
use Rattle.std.specs.Str.{bytes_eq}
use Rattle.serde_json.specs.Data.{Data}
use Rattle.serde_json.specs.Find.{get, as_str}
use Rattle.eb_json.specs.Documents.{document_of, has_keys}
use Rattle.eb_json.specs.Forms.{◌>>=◌, object_at, member_at, natural_at}
use Rattle.eb_json.specs.declared.faults.FormFault.{FormFault}
use Rattle.eb_json.specs.declared.faults.FormFault.TheVariants as form
use Rattle.eb_scene.specs.Validity.{IsEdit}
use Rattle.eb_scene_text.specs.EditForm.{edit_of}
use Rattle.eb_session.specs.declared.requests.Request.{Request}
use Rattle.eb_session.specs.declared.requests.Request.TheVariants as request
use Rattle.eb_session.specs.declared.requests.RequestFault.{RequestFault}
use Rattle.eb_session.specs.declared.requests.RequestFault.TheVariants.{Memory, LineTooLong, BadJson, NotYet, BadRequest}

-- what reading a form says of a request: it is one, or a node is wrong
abbrev pub fault_of : FormFault → RequestFault
fault_of form.Memory = Memory
fault_of (form.Wrong place) = BadRequest place

abbrev pub asked : {X : Type 0} → (X → Request) → Result X FormFault → Result Request RequestFault
asked make (Ok x) = Ok (make x)
asked make (Err fault) = Err (fault_of fault)

-- the words of requests that aren't answered yet
unfoldable pub is_later : List ℕ → Bool
is_later word =
    bytes_eq word (codes "rows") || bytes_eq word (codes "count") || bytes_eq word (codes "sum") || bytes_eq word (codes "max")
    || bytes_eq word (codes "job") || bytes_eq word (codes "buffer")

-- {"do":WORD}
unfoldable pub alone : Request → Data → Result Request RequestFault
alone made d = if has_keys (codes "do" ∷ []) d then Ok made else Err (BadRequest 0)

-- {"do":WORD,"scene":1 to 16,"section":0 to 63}, whose nodes are the root, the word, the scene and the section
unfoldable pub place_form : Data → Result (ℕ × ℕ) FormFault
place_form d = do
  o ← object_at (codes "do" ∷ codes "scene" ∷ codes "section" ∷ []) 0 d
  s ← member_at (codes "scene") 2 o
  scene ← natural_at 1 16 2 s
  k ← member_at (codes "section") 3 o
  section ← natural_at 0 63 3 k
  Ok (scene, section)

abbrev pub edit_request : Data → Result Request RequestFault
edit_request d = asked request.Edit (edit_of d)

-- the request of a word; with any other word the document is read as an edit
unfoldable pub by_word : List ℕ → Data → Result Request RequestFault
by_word word d =
    if is_later word then Err NotYet
    else if bytes_eq word (codes "publish") then alone request.Publish d
    else if bytes_eq word (codes "dump") then alone request.Dump d
    else if bytes_eq word (codes "issues") then alone request.Issues d
    else if bytes_eq word (codes "project") then alone request.Project d
    else if bytes_eq word (codes "load") then asked (λ p. request.Load p.0 p.1) (place_form d)
    else if bytes_eq word (codes "unload") then asked (λ p. request.Unload p.0 p.1) (place_form d)
    else edit_request d

abbrev pub where_word : Option (List ℕ) → Data → Result Request RequestFault
where_word None d = edit_request d
where_word (Some word) d = by_word word d

unfoldable pub request_in : Data → Result Request RequestFault
request_in d = where_word (option_and_then as_str (get (codes "do") d)) d

abbrev pub in_document : Option Data → Result Request RequestFault
in_document None = Err BadJson
in_document (Some d) = request_in d

-- a line of at most 65,536 bytes that spells a request, or the first rule that it breaks
unfoldable pub request_of : List ℕ → Result Request RequestFault
request_of line = if nat_le (length line) 65536 then in_document (document_of line) else Err LineTooLong

-- ---- what a call tells

abbrev pub Refuses : {X : Type 0} → RequestFault → Result X RequestFault → Type 0
Refuses Memory want = ⊤
Refuses fault want = want ≡ Err fault

-- what a call answered is what is wanted, unless memory ran out
abbrev pub Tells : {X : Type 0} → Result X RequestFault → Result X RequestFault → Type 0
Tells (Ok x) want = want ≡ Ok x
Tells (Err fault) want = Refuses fault want

-- a request whose edit speaks of scenes, objects and assets that a project may have
abbrev pub IsRequest : Request → Type 0
IsRequest (request.Edit edit) = IsEdit edit
IsRequest request.Publish = ⊤
IsRequest request.Dump = ⊤
IsRequest request.Issues = ⊤
IsRequest request.Project = ⊤
IsRequest (request.Load scene section) = ⊤
IsRequest (request.Unload scene section) = ⊤
