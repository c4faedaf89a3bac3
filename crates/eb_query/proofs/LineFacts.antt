-- An entity's line, written piece by piece, and the lines of all.
use Rattle.std.proofs.Common.{◌≡◌, ℕ, zero, suc, ◌+◌, Bool, true, false, cond, ◌&&◌, nat_eq, List, [], ◌∷◌, ◌++◌, drop, flat_map, refl, sym, ◌∙◌, ap, T, subst, append_assoc, append-nil, arith, nat_cmp, Less}
use Rattle.std.specs.Prelude.{Option, Some, None, option_and_then, option_map, slice_get}
use Rattle.std.specs.List.{AllByRecursion}
use Rattle.std.specs.List.Sorted.{IsStrictlySortedBy}
use Rattle.std.specs.Cmp.{eq_by_cmp_equiv}
use Rattle.std.specs.Ordering.{is_eq, is_lt}
use Rattle.std.specs.declared.cmp.Ordering.{Ordering}
use Rattle.std.specs.declared.cmp.Ordering.TheVariants as order
use Rattle.std.specs.Map.{keys_of}
use Rattle.std.specs.FinMap.{entries, entries_sorted, get, get-entries, keys}
use Rattle.std.specs.FinMap.Entries as listed
use Rattle.std.specs.FinMap.Entries.{is_sorted, below_all}
use Rattle.std.proofs.lemmas.Bool.Decides.{nat_tests}
use Rattle.std.proofs.lemmas.Map.Keys.{sorted_head, sorted_tail}
use Rattle.eb_base.specs.declared.names.Name.{Name}
use Rattle.eb_base.specs.declared.names.Place.{Place}
use Rattle.eb_base.specs.declared.names.Entity.{Entity}
use Rattle.eb_base.specs.Names.{name_cmp, name_text}
use Rattle.eb_base.proofs.NameOrder.{names_total}
use Rattle.eb_schema.specs.declared.kinds.Field.{Field}
use Rattle.eb_schema.specs.declared.rows.Val.{Val}
use Rattle.eb_schema.specs.declared.rows.Cell.{Cell}
use Rattle.eb_schema.specs.Rows.{cell_of, kinds_of}
use Rattle.eb_schema.specs.Schemas.{Types, component_of}
use Rattle.eb_world.specs.Worlds.{IsWorld, Live, Living, World, living_of}
use Rattle.eb_world.proofs.Naming.{named_some, not_none, same_some}
use Rattle.eb_query.specs.EntityText.{cell_text, component_text, entity_line, entity_lines, field_text, tag_text}
use Rattle.eb_query.specs.Pieces.{cell_values, fields_from, kind_text, line_of, match_of, separator}
use Rattle.eb_query.specs.Queries.{Asked, matches, matching_line, matching_lines}

-- ---- fields

next_at : {X : Type 0} (xs : List X) (n : ℕ) (x : X) → slice_get xs n ≡ Some x → drop n xs ≡ x ∷ drop (suc n) xs
next_at [] n x h = absurd (not_none x h)
next_at (y ∷ ys) zero x h = ap (λ z. z ∷ ys) (same_some y x h)
next_at (y ∷ ys) (suc n) x h = next_at ys n x h

past : {X : Type 0} (xs : List X) (n : ℕ) → slice_get xs n ≡ None → drop n xs ≡ []
past [] zero h = refl
past [] (suc n) h = refl
past (y ∷ ys) zero h = absurd (not_none y (sym h))
past (y ∷ ys) (suc n) h = past ys n h

no_fields : (n : ℕ) (fs : List Field) → fields_from n fs [] ≡ []
no_fields zero [] = refl
no_fields zero (f ∷ fs) = refl
no_fields (suc n) [] = refl
no_fields (suc n) (f ∷ fs) = refl

one_field : (n : ℕ) (f : Field) (fs : List Field) (v : Val) (vs : List Val) → fields_from n (f ∷ fs) (v ∷ vs) ≡ (separator n ++ field_text f v) ++ fields_from (suc n) fs vs
one_field zero f fs v vs = refl
one_field (suc n) f fs v vs = refl

pub fields_step : (done whole : List ℕ) (n : ℕ) (fs : List Field) (vs : List Val) (f : Field) (v : Val) → slice_get fs n ≡ Some f → slice_get vs n ≡ Some v
    → done ++ fields_from n (drop n fs) (drop n vs) ≡ whole → (done ++ (separator n ++ field_text f v)) ++ fields_from (n + 1) (drop (n + 1) fs) (drop (n + 1) vs) ≡ whole
fields_step done whole n fs vs f v h k e =
    let after : n + 1 ≡ suc n = omega arith in
    ap (λ m. (done ++ (separator n ++ field_text f v)) ++ fields_from m (drop m fs) (drop m vs)) after
    ∙ append_assoc done (separator n ++ field_text f v) (fields_from (suc n) (drop (suc n) fs) (drop (suc n) vs))
    ∙ ap (λ t. done ++ t) (sym (one_field n f (drop (suc n) fs) v (drop (suc n) vs)))
    ∙ (λ i. done ++ fields_from n (sym (next_at fs n f h) i) (sym (next_at vs n v k) i)) ∙ e

pub fields_end : (done whole : List ℕ) (n : ℕ) (fs : List Field) (vs : List Val) → slice_get vs n ≡ None → done ++ fields_from n (drop n fs) (drop n vs) ≡ whole → done ≡ whole
fields_end done whole n fs vs h e =
    sym (append-nil done) ∙ ap (λ t. done ++ t) (sym (ap (fields_from n (drop n fs)) (past vs n h) ∙ no_fields n (drop n fs))) ∙ e

-- ---- types

module _ (types : Types) where
  lifted : (c : Cell) (cs ds : List Cell) → AllByRecursion (λ y. nat_cmp c.kind y ≡ Less) (kinds_of ds) → AllByRecursion (λ (d : Cell). cell_of cs d.kind ≡ Some d) ds
      → AllByRecursion (λ (d : Cell). cell_of (c ∷ cs) d.kind ≡ Some d) ds
  lifted c cs [] h k = tt
  lifted c cs (d ∷ ds) h k =
      let apart : nat_eq c.kind d.kind ≡ false = grind (arith, nat_tests, h.0) in
      (ap (λ b. cond b (Some c) (cell_of cs d.kind)) apart ∙ k.0, lifted c cs ds h.1 k.1)

  each_found : (row : List Cell) → IsStrictlySortedBy nat_cmp (kinds_of row) → AllByRecursion (λ (c : Cell). cell_of row c.kind ≡ Some c) row
  each_found [] h = tt
  each_found (c ∷ cs) h =
      let same : nat_eq c.kind c.kind ≡ true = grind (arith, nat_tests) in (
        ap (λ b. cond b (Some c) (cell_of cs c.kind)) same,
        lifted c cs cs (sorted_head nat_cmp c.kind (kinds_of cs) h) (each_found cs (sorted_tail nat_cmp c.kind (kinds_of cs) h)),
      )

  by_cells : (l : Living) (row : List Cell) → AllByRecursion (λ (c : Cell). cell_of l.row c.kind ≡ Some c) row → flat_map (kind_text types (Some l)) (kinds_of row) ≡ flat_map (cell_text types) row
  by_cells l [] h = refl
  by_cells l (c ∷ cs) h =
      ap (λ o. component_text (component_of types c.kind) (cell_values o) ++ flat_map (kind_text types (Some l)) (kinds_of cs)) h.0
      ∙ ap (λ t. cell_text types c ++ t) (by_cells l cs h.1)

  pub line_whole : (name : Name) (o : Option Living) (tag : Option Place) (kinds : List ℕ) → option_map (λ (l : Living). l.tag) o ≡ Some tag → option_map (λ (l : Living). kinds_of l.row) o ≡ Some kinds
      → IsStrictlySortedBy nat_cmp kinds → name_text name ++ 32 ∷ (tag_text tag ++ (flat_map (kind_text types o) kinds ++ 10 ∷ [])) ≡ line_of types name o
  line_whole name None tag kinds h k s = absurd (not_none tag h)
  line_whole name (Some l) tag kinds h k s =
      let same = same_some (kinds_of l.row) kinds k in
      let sorted = subst (IsStrictlySortedBy nat_cmp) (sym same) s in
      ap (λ t. name_text name ++ 32 ∷ (tag_text t ++ (flat_map (kind_text types (Some l)) kinds ++ 10 ∷ []))) (sym (same_some l.tag tag h))
      ∙ ap (λ ks. name_text name ++ 32 ∷ (tag_text l.tag ++ (flat_map (kind_text types (Some l)) ks ++ 10 ∷ []))) (sym same)
      ∙ ap (λ t. name_text name ++ 32 ∷ (tag_text l.tag ++ (t ++ 10 ∷ []))) (by_cells l l.row (each_found l.row sorted))

-- what is written one after another is written at once
pub written : (old name tag kinds : List ℕ) → ((((old ++ name) ++ 32 ∷ []) ++ tag) ++ kinds) ++ 10 ∷ [] ≡ old ++ (name ++ 32 ∷ (tag ++ (kinds ++ 10 ∷ [])))
written old name tag kinds =
    append_assoc (((old ++ name) ++ 32 ∷ []) ++ tag) kinds (10 ∷ [])
    ∙ append_assoc ((old ++ name) ++ 32 ∷ []) tag (kinds ++ 10 ∷ [])
    ∙ append_assoc (old ++ name) (32 ∷ []) (tag ++ (kinds ++ 10 ∷ []))
    ∙ append_assoc old name (32 ∷ (tag ++ (kinds ++ 10 ∷ [])))

-- ---- which match

pub lives_as : (w : World) → IsWorld w → (name : Name) (entity : Entity) → Some entity ≡ get w.handles name → living_of w entity ≡ get w.live name
lives_as w whole name entity h = ap (λ o. option_and_then (get w.live) o) (named_some w.handles entity name (sym h) (λ a b. whole.apart a b entity))

module _ (asked : Asked) (types : Types) (name : Name) where
  pub no_match : (o : Option Living) → None ≡ option_map (λ (l : Living). kinds_of l.row) o → match_of asked types name o ≡ []
  no_match None h = refl
  no_match (Some l) h = absurd (not_none (kinds_of l.row) h)

  pub no_tag : (o : Option Living) → None ≡ option_map (λ (l : Living). l.tag) o → match_of asked types name o ≡ []
  no_tag None h = refl
  no_tag (Some l) h = absurd (not_none l.tag h)

  pub does_match : (o : Option Living) (kinds : List ℕ) → Some kinds ≡ option_map (λ (l : Living). kinds_of l.row) o → matches asked kinds ≡ true → line_of types name o ≡ match_of asked types name o
  does_match None kinds h m = refl
  does_match (Some l) kinds h m = sym (ap (λ b. cond b (entity_line types name l) []) (ap (matches asked) (sym (same_some kinds (kinds_of l.row) h)) ∙ m))

  pub does_not : (o : Option Living) (kinds : List ℕ) → Some kinds ≡ option_map (λ (l : Living). kinds_of l.row) o → matches asked kinds ≡ false → match_of asked types name o ≡ []
  does_not None kinds h m = refl
  does_not (Some l) kinds h m = ap (λ b. cond b (entity_line types name l) []) (ap (matches asked) (sym (same_some kinds (kinds_of l.row) h)) ∙ m)

-- ---- all entries

first : (a b : Bool) → T (a && b) → T a
first true b h = tt
first false b h = absurd h

second : (a b : Bool) → T (a && b) → T b
second true b h = h
second false b h = absurd h

not_equal : (r : Ordering) → T (is_lt r) → is_eq r ≡ false
not_equal order.Less h = refl
not_equal order.Equal h = absurd h
not_equal order.Greater h = absurd h

module _ {X : Type 0} (f : Name → Option X → List ℕ) where
  later : (e : Name × X) (es ds : List (Name × X)) → T (below_all name_cmp e.0 ds) → flat_map (λ k. f k (listed.find name_cmp k (e ∷ es))) (keys_of ds) ≡ flat_map (λ k. f k (listed.find name_cmp k es)) (keys_of ds)
  later e es [] h = refl
  later e es (d ∷ ds) h =
      let apart = (eq_by_cmp_equiv names_total).symm d.0 e.0 ∙ not_equal _ (first _ _ h) in
      (λ i. f d.0 (cond (apart i) (Some e.1) (listed.find name_cmp d.0 es)) ++ later e es ds (second _ _ h) i)

  by_entries : (es : List (Name × X)) → T (is_sorted name_cmp es) → flat_map (λ k. f k (listed.find name_cmp k es)) (keys_of es) ≡ flat_map (λ (e : Name × X). f e.0 (Some e.1)) es
  by_entries [] h = refl
  by_entries (e ∷ es) h =
      (λ i. f e.0 (cond ((eq_by_cmp_equiv names_total).refl e.0 i) (Some e.1) (listed.find name_cmp e.0 es)) ++ later e es es (first _ _ h) i)
      ∙ ap (λ t. f e.0 (Some e.1) ++ t) (by_entries es (second _ _ h))

pub all_lines : (asked : Asked) (types : Types) (live : Live) → flat_map (λ name. match_of asked types name (get live name)) (keys live) ≡ matching_lines asked types live
unfolding matching_lines
all_lines asked types live =
    (λ i. flat_map (λ name. match_of asked types name (get-entries live name i)) (keys live))
    ∙ by_entries (match_of asked types) (entries live) (entries_sorted live)

each_line : (types : Types) (es : List (Name × Living)) → flat_map (matching_line (record { all = []; any = []; none = [] }) types) es ≡ flat_map (λ (e : Name × Living). entity_line types e.0 e.1) es
each_line types [] = refl
each_line types (e ∷ es) = ap (λ t. entity_line types e.0 e.1 ++ t) (each_line types es)

-- the query that asks for nothing lists all entities
pub lists_all : (types : Types) (live : Live) → matching_lines (record { all = []; any = []; none = [] }) types live ≡ entity_lines types live
unfolding matching_lines entity_lines
lists_all types live = each_line types (entries live)
