-- The components of an object stay valid: one put, one taken away, one with another value.
use Rattle.std.proofs.Common.{◌≡◌, ℕ, zero, suc, ◌+◌, ◌≤◌, List, [], ◌∷◌, Bool, true, false, cond, not, Option, Some, None, Result, Ok, Err, ℤ, pos, negsuc, ◌*ℤ◌, refl, sym, ap, subst, true≢false, arith}
use Rattle.std.specs.Prelude.{slice_set, bytes_eq}
use Rattle.std.specs.List.{list_any}
use Rattle.eb_base.specs.Arithmetic.{fits_i64}
use Rattle.eb_schema.specs.declared.kinds.Kind.{Kind}
use Rattle.eb_schema.specs.declared.kinds.Kind.TheVariants.{I8, I16, I32, I64, Fix, Ref, Asset}
use Rattle.eb_schema.specs.declared.kinds.Field.{Field}
use Rattle.eb_schema.proofs.SoundFacts.{unless}
use Rattle.eb_scene.specs.declared.objects.Given.{Given}
use Rattle.eb_scene.specs.declared.objects.Given.TheVariants as given
use Rattle.eb_scene.specs.declared.edits.Raw.{Raw}
use Rattle.eb_scene.specs.declared.edits.Raw.TheVariants.{Int, Units, Null}
use Rattle.eb_scene.specs.declared.edits.RawField.{RawField}
use Rattle.eb_scene.specs.declared.edits.EditFault.{EditFault}
use Rattle.eb_scene.specs.declared.edits.EditFault.TheVariants as fault
use Rattle.eb_scene.specs.Fits.{lies, is_number, size, whole, units, nothing, fitting, blank, value_of, written, before, values_from, has_field, fitted, place_from, placed, fitted_at, field_fitted}
use Rattle.eb_scene.specs.Validity.{suits, Suit}
use Rattle.eb_scene.proofs.ValidObjects.{ok_same}

-- ---- values that fit suit their fields

some_same : {X : Type 0} (x y : X) → Some x ≡ Some y → x ≡ y
some_same x y h = cc

tested : (kind : Kind) (b : Bool) (w v : Given) → (b ≡ true → suits kind w ≡ true) → cond b (Some w) None ≡ Some v → suits kind v ≡ true
tested kind true w v sound h = subst (λ x. suits kind x ≡ true) (some_same w v h) (sound refl)
tested kind false w v sound h = cc

sized : (z : ℤ) → is_number z ≡ true → is_number (pos (size z)) ≡ true
sized (pos n) h = h
sized (negsuc n) h = absurd (true≢false (sym h))

whole_suits : (kind : Kind) (z : ℤ) (v : Given) → whole kind z ≡ Some v → suits kind v ≡ true
whole_suits I8 z v h = tested I8 (lies (negsuc 127) (pos 127) z) (given.Num z) v (λ t. t) h
whole_suits I16 z v h = tested I16 (lies (negsuc 32767) (pos 32767) z) (given.Num z) v (λ t. t) h
whole_suits I32 z v h = tested I32 (lies (negsuc 2147483647) (pos 2147483647) z) (given.Num z) v (λ t. t) h
whole_suits I64 z v h = tested I64 (fits_i64 z) (given.Num z) v (λ t. t) h
whole_suits Fix z v h = tested Fix (fits_i64 (z *ℤ pos 65536)) (given.Num (z *ℤ pos 65536)) v (λ t. t) h
whole_suits Ref z v h = tested Ref (is_number z) (given.Object (size z)) v (sized z) h
whole_suits Asset z v h = tested Asset (is_number z) (given.Asset (size z)) v (sized z) h

units_suits : (kind : Kind) (z : ℤ) (v : Given) → units kind z ≡ Some v → suits kind v ≡ true
units_suits Fix z v h = tested Fix (fits_i64 z) (given.Num z) v (λ t. t) h
units_suits I8 z v h = cc
units_suits I16 z v h = cc
units_suits I32 z v h = cc
units_suits I64 z v h = cc
units_suits Ref z v h = cc
units_suits Asset z v h = cc

known : (kind : Kind) (w v : Given) → suits kind w ≡ true → Some w ≡ Some v → suits kind v ≡ true
known kind w v sound h = subst (λ x. suits kind x ≡ true) (some_same w v h) sound

nothing_suits : (kind : Kind) (v : Given) → nothing kind ≡ Some v → suits kind v ≡ true
nothing_suits Ref v h = known Ref given.Null v refl h
nothing_suits Asset v h = known Asset given.Null v refl h
nothing_suits I8 v h = cc
nothing_suits I16 v h = cc
nothing_suits I32 v h = cc
nothing_suits I64 v h = cc
nothing_suits Fix v h = cc

pub fitting_suits : (kind : Kind) (raw : Raw) (v : Given) → fitting kind raw ≡ Some v → suits kind v ≡ true
fitting_suits kind (Int z) v h = whole_suits kind z v h
fitting_suits kind (Units z) v h = units_suits kind z v h
fitting_suits kind Null v h = nothing_suits kind v h

blank_suits : (kind : Kind) → suits kind (blank kind) ≡ true
blank_suits I8 = refl
blank_suits I16 = refl
blank_suits I32 = refl
blank_suits I64 = refl
blank_suits Fix = refl
blank_suits Ref = refl
blank_suits Asset = refl

value_suits : (kind : Kind) (raw : Option Raw) (v : Given) → value_of kind raw ≡ Some v → suits kind v ≡ true
value_suits kind None v h = known kind (blank kind) v (blank_suits kind) h
value_suits kind (Some raw) v h = fitting_suits kind raw v h

before_where : (f : Field) (fs : List Field) (i : ℕ) (o : Option Given) (rest : Result (List Given) EditFault) (vs : List Given) → ((v : Given) → o ≡ Some v → suits f.kind v ≡ true)
    → ((ws : List Given) → rest ≡ Ok ws → Suit fs ws) → before i o rest ≡ Ok vs → Suit (f ∷ fs) vs
before_where f fs i None rest vs one later h = cc
before_where f fs i (Some v) (Err e) vs one later h = cc
before_where f fs i (Some v) (Ok ws) vs one later h = subst (Suit (f ∷ fs)) (ok_same (v ∷ ws) vs h) (one v refl, later ws refl)

values_suit : (i : ℕ) (fields : List Field) (raws : List RawField) (vs : List Given) → values_from i fields raws ≡ Ok vs → Suit fields vs
values_suit i [] raws vs h = subst (Suit []) (ok_same [] vs h) tt
values_suit i (f ∷ fs) raws vs h = before_where f fs i (value_of f.kind (written raws f.name)) (values_from (i + 1) fs raws) vs (value_suits f.kind (written raws f.name)) (values_suit (i + 1) fs raws) h

pub fitted_suit : (fields : List Field) (raws : List RawField) (vs : List Given) → fitted fields raws ≡ Ok vs → Suit fields vs
fitted_suit fields raws vs h = values_suit 0 fields raws vs (unless (list_any (λ r. not (has_field fields r.name)) raws) fault.NoField _ vs h).1

-- ---- one value in place of another

-- the value may stand in the field at this place of the list, if there is one
abbrev SuitsAt : List Field → ℕ → Given → Type 0
SuitsAt [] place v = Unit {0}
SuitsAt (f ∷ fs) zero v = suits f.kind v ≡ true
SuitsAt (f ∷ fs) (suc place) v = SuitsAt fs place v

set_suit : (fields : List Field) (values : List Given) (place : ℕ) (v : Given) → SuitsAt fields place v → Suit fields values → Suit fields (slice_set values place v)
set_suit [] [] place v here all = all
set_suit [] (w ∷ ws) place v here all = absurd all
set_suit (f ∷ fs) [] place v here all = absurd all
set_suit (f ∷ fs) (w ∷ ws) zero v here all = (here, all.1)
set_suit (f ∷ fs) (w ∷ ws) (suc place) v here all = (all.0, set_suit fs ws place v here all.1)

-- the field at a place that was counted from i on
placed_suits : (i : ℕ) (fields : List Field) (name : List ℕ) (p : ℕ × Kind) (v : Given) → place_from i fields name ≡ Some p → suits p.1 v ≡ true → (place : ℕ) → place + i ≡ p.0 → SuitsAt fields place v
placed_suits i [] name p v found sound place at = tt
placed_suits i (f ∷ fs) name p v found sound place at = placed_where (bytes_eq name f.name) i f fs name p v found sound place at (λ h q e. placed_suits (i + 1) fs name p v h sound q e)
  where
    past : (i : ℕ) (fs : List Field) (name : List ℕ) (p : ℕ × Kind) → place_from i fs name ≡ Some p → i ≤ p.0
    past i [] name p h = cc
    past i (f ∷ fs) name p h = past_where (bytes_eq name f.name) i f fs name p h (λ g. past (i + 1) fs name p g)
      where
        past_where : (b : Bool) (i : ℕ) (f : Field) (fs : List Field) (name : List ℕ) (p : ℕ × Kind) → cond b (Some (i, f.kind)) (place_from (i + 1) fs name) ≡ Some p
            → (place_from (i + 1) fs name ≡ Some p → i + 1 ≤ p.0) → i ≤ p.0
        past_where true i f fs name p h later = let e : (i, f.kind) ≡ p = some_same (i, f.kind) p h in let same : i ≡ p.0 = ap (λ q. q.0) e in omega (arith, same)
        past_where false i f fs name p h later = let g = later h in omega (arith, g)

    placed_where : (b : Bool) (i : ℕ) (f : Field) (fs : List Field) (name : List ℕ) (p : ℕ × Kind) (v : Given) → cond b (Some (i, f.kind)) (place_from (i + 1) fs name) ≡ Some p → suits p.1 v ≡ true
        → (place : ℕ) → place + i ≡ p.0 → (place_from (i + 1) fs name ≡ Some p → (q : ℕ) → q + (i + 1) ≡ p.0 → SuitsAt fs q v) → SuitsAt (f ∷ fs) place v
    placed_where true i f fs name p v h sound zero at later =
        let e : (i, f.kind) ≡ p = some_same (i, f.kind) p h in
        subst (λ k. suits k v ≡ true) (sym (ap (λ q. q.1) e)) sound
    placed_where true i f fs name p v h sound (suc place) at later =
        let e : (i, f.kind) ≡ p = some_same (i, f.kind) p h in
        let same : i ≡ p.0 = ap (λ q. q.0) e in
        absurd (omega (arith, same, at))
    placed_where false i f fs name p v h sound zero at later = let g = past (i + 1) fs name p h in absurd (omega (arith, g, at))
    placed_where false i f fs name p v h sound (suc place) at later = later h place (omega (arith, at))

pub set_fitted : (fields : List Field) (name : List ℕ) (raw : Raw) (r : ℕ × Given) → field_fitted fields name raw ≡ Ok r → (values : List Given) → Suit fields values → Suit fields (slice_set values r.0 r.1)
set_fitted fields name raw r h values all = fitted_where (place_from 0 fields name) fields name raw r refl h values all
  where
    placed_ok : (i : ℕ) (o : Option Given) (r : ℕ × Given) → placed i o ≡ Ok r → (i ≡ r.0) × (o ≡ Some r.1)
    placed_ok i None r h = cc
    placed_ok i (Some v) r h = let e : (i, v) ≡ r = ok_same (i, v) r h in (ap (λ q. q.0) e, ap (λ q. Some q.1) e)

    fitted_where : (o : Option (ℕ × Kind)) (fields : List Field) (name : List ℕ) (raw : Raw) (r : ℕ × Given) → place_from 0 fields name ≡ o → fitted_at o raw ≡ Ok r
        → (values : List Given) → Suit fields values → Suit fields (slice_set values r.0 r.1)
    fitted_where None fields name raw r is h values all = cc
    fitted_where (Some p) fields name raw r is h values all =
        let parts = placed_ok p.0 (fitting p.1 raw) r h in
        let at : r.0 + 0 ≡ p.0 = omega (arith, parts.0) in
        set_suit fields values r.0 r.1 (placed_suits 0 fields name p r.1 is (fitting_suits p.1 raw r.1 parts.1) r.0 at) all
