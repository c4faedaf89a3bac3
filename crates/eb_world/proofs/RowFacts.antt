-- The values of a row end to end, and the cells that they make.
use Rattle.std.proofs.Common.{◌≡◌, ℕ, zero, suc, List, [], ◌∷◌, ◌++◌, map, length, take, drop, refl, ◌∙◌, ap, subst, arith}
use Rattle.std.specs.Prelude.{Option, Some, None, IsSomeAnd, ⊤}
use Rattle.std.specs.List.{AllByRecursion, AllZip}
use Rattle.std.proofs.Math.Seq.{take-append_seam, drop-append_seam}
use Rattle.std.proofs.lemmas.List.{map-append, length-map, length-append}
use Rattle.std.proofs.lemmas.List.Elements.{All-tail}
use Rattle.eb_schema.specs.declared.kinds.Kind.{Kind}
use Rattle.eb_schema.specs.declared.kinds.Kind.TheVariants.{I8, I16, I32, I64, Fix, Ref, Asset}
use Rattle.eb_schema.specs.declared.kinds.Field.{Field}
use Rattle.eb_schema.specs.declared.kinds.Component.{Component}
use Rattle.eb_schema.specs.declared.rows.Val.{Val}
use Rattle.eb_schema.specs.declared.rows.Val.TheVariants.{Num, To, Null, Gone}
use Rattle.eb_schema.specs.declared.rows.Cell.{Cell}
use Rattle.eb_schema.specs.Rows.{kinds_of}
use Rattle.eb_schema.specs.Schemas.{Types, component_of}
use Rattle.eb_world.specs.Worlds.{in_row, ValueFits, CellFits, RowFits}
use Rattle.eb_world.specs.Beings.{cells_of, fields_in, flat, total, width}

-- a value that isn't gone
abbrev pub IsHere : Val → Type 0
IsHere (Num n) = ⊤
IsHere (To name) = ⊤
IsHere Null = ⊤
IsHere Gone = ⊥

here_of : (kind : Kind) (value : Val) → ValueFits kind value → IsHere value
here_of kind (Num n) h = tt
here_of kind (To name) h = tt
here_of kind Null h = tt
here_of I8 Gone h = h
here_of I16 Gone h = h
here_of I32 Gone h = h
here_of I64 Gone h = h
here_of Fix Gone h = h
here_of Ref Gone h = h
here_of Asset Gone h = h

zip_length : (fs : List Field) (vs : List Val) → AllZip (λ field value. ValueFits field.kind value) fs vs → length vs ≡ length fs
zip_length [] [] h = refl
zip_length [] (v ∷ vs) h = absurd h
zip_length (f ∷ fs) [] h = absurd h
zip_length (f ∷ fs) (v ∷ vs) h = omega (arith, zip_length fs vs h.1)

zip_here : (fs : List Field) (vs : List Val) → AllZip (λ field value. ValueFits field.kind value) fs vs → AllByRecursion IsHere vs
zip_here [] [] h = tt
zip_here [] (v ∷ vs) h = absurd h
zip_here (f ∷ fs) [] h = absurd h
zip_here (f ∷ fs) (v ∷ vs) h = (here_of f.kind v h.0, zip_here fs vs h.1)

width_where : (o : Option Component) (vs : List Val) → IsSomeAnd o (λ c. AllZip (λ field value. ValueFits field.kind value) c.fields vs) → length vs ≡ fields_in o
width_where None vs h = absurd h
width_where (Some c) vs h = zip_length c.fields vs h

here_where : (o : Option Component) (vs : List Val) → IsSomeAnd o (λ c. AllZip (λ field value. ValueFits field.kind value) c.fields vs) → AllByRecursion IsHere vs
here_where None vs h = absurd h
here_where (Some c) vs h = zip_here c.fields vs h

module _ (types : Types) where
  head_fits : (c : Cell) (cs : List Cell) → RowFits types (c ∷ cs) → CellFits types c
  head_fits c cs h = h 0 c (omega arith)

  tail_fits : (c : Cell) (cs : List Cell) → RowFits types (c ∷ cs) → RowFits types cs
  tail_fits c cs h = All-tail (CellFits types) c cs h

  cell_width : (c : Cell) → CellFits types c → length c.values ≡ width types c.kind
  cell_width c h = width_where (component_of types c.kind) c.values h

  -- a row that fits has as many values as its types
  pub flat_length : (row : List Cell) → RowFits types row → length (flat row) ≡ total types (kinds_of row)
  flat_length [] h = refl
  flat_length (c ∷ cs) h =
      let here = cell_width c (head_fits c cs h) in
      let rest = flat_length cs (tail_fits c cs h) in
      omega (arith, length-append c.values (flat cs))

  taken : (n : ℕ) (xs ys : List Val) → length xs ≡ n → take n (xs ++ ys) ≡ xs
  taken n xs ys h = subst (λ k. take k (xs ++ ys) ≡ xs) h (take-append_seam xs ys)

  dropped : (n : ℕ) (xs ys : List Val) → length xs ≡ n → drop n (xs ++ ys) ≡ ys
  dropped n xs ys h = subst (λ k. drop k (xs ++ ys) ≡ ys) h (drop-append_seam xs ys)

  -- the cells that the values of a row make are the row
  pub cells_of-flat : (g : Val → Val) (row : List Cell) → RowFits types row → cells_of types (kinds_of row) (map g (flat row)) ≡ in_row g row
  cells_of-flat g [] h = refl
  cells_of-flat g (c ∷ cs) h =
      let wide = length-map c.values g ∙ cell_width c (head_fits c cs h) in
      ap (cells_of types (c.kind ∷ kinds_of cs)) (map-append g c.values (flat cs))
      ∙ (λ i. record { kind = c.kind; values = taken (width types c.kind) (map g c.values) (map g (flat cs)) wide i } ∷ cells_of types (kinds_of cs) (dropped (width types c.kind) (map g c.values) (map g (flat cs)) wide i))
      ∙ ap (λ rest. record { kind = c.kind; values = map g c.values } ∷ rest) (cells_of-flat g cs (tail_fits c cs h))

  all_append : {X : Type 0} (P : X → Type 0) (xs ys : List X) → AllByRecursion P xs → AllByRecursion P ys → AllByRecursion P (xs ++ ys)
  all_append P [] ys h k = k
  all_append P (x ∷ xs) ys h k = (h.0, all_append P xs ys h.1 k)

  -- no value of a row that fits is gone
  pub flat_here : (row : List Cell) → RowFits types row → AllByRecursion IsHere (flat row)
  flat_here [] h = tt
  flat_here (c ∷ cs) h = all_append IsHere c.values (flat cs) (here_where (component_of types c.kind) c.values (head_fits c cs h)) (flat_here cs (tail_fits c cs h))

-- ---- maps of values

pub map_map : {A B C : Type 0} (g : B → C) (f : A → B) (xs : List A) → map g (map f xs) ≡ map (λ x. g (f x)) xs
map_map g f [] = refl
map_map g f (x ∷ xs) = ap (λ ys. g (f x) ∷ ys) (map_map g f xs)

pub map_alike : {A B : Type 0} (P : A → Type 0) (f g : A → B) → ((x : A) → P x → f x ≡ g x) → (xs : List A) → AllByRecursion P xs → map f xs ≡ map g xs
map_alike P f g same [] h = refl
map_alike P f g same (x ∷ xs) h = λ i. same x h.0 i ∷ map_alike P f g same xs h.1 i

-- cells of values that are mapped are mapped cells
pub take_map : {A B : Type 0} (f : A → B) (n : ℕ) (xs : List A) → take n (map f xs) ≡ map f (take n xs)
take_map f zero xs = refl
take_map f (suc n) [] = refl
take_map f (suc n) (x ∷ xs) = ap (λ ys. f x ∷ ys) (take_map f n xs)

pub drop_map : {A B : Type 0} (f : A → B) (n : ℕ) (xs : List A) → drop n (map f xs) ≡ map f (drop n xs)
drop_map f zero xs = refl
drop_map f (suc n) [] = refl
drop_map f (suc n) (x ∷ xs) = drop_map f n xs

pub cells_of-map : (types : Types) (f : Val → Val) (ks : List ℕ) (vs : List Val) → cells_of types ks (map f vs) ≡ in_row f (cells_of types ks vs)
cells_of-map types f [] vs = refl
cells_of-map types f (k ∷ ks) vs =
    (λ i. record { kind = k; values = take_map f (width types k) vs i } ∷ cells_of types ks (drop_map f (width types k) vs i))
    ∙ ap (λ rest. record { kind = k; values = map f (take (width types k) vs) } ∷ rest) (cells_of-map types f ks (drop (width types k) vs))

pub kinds_of-cells_of : (types : Types) (ks : List ℕ) (vs : List Val) → kinds_of (cells_of types ks vs) ≡ ks
kinds_of-cells_of types [] vs = refl
kinds_of-cells_of types (k ∷ ks) vs = ap (λ js. k ∷ js) (kinds_of-cells_of types ks (drop (width types k) vs))
