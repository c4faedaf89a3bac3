-- What contracts see of claims and of a seat.
use Rattle.std.specs.Prelude.{◌≡◌, ℕ, ◌<◌, ◌≤◌, refl}
use base.Stored.{Coded, coded×, coded_ℕ}
use Rattle.std.specs.Coded.{code_by}
use Rattle.atomic_table.specs.Seated.{TableId, table_id_coded}
use Rattle.eb_claims.specs.declared.rule.View.{View}
use Rattle.eb_claims.specs.declared.rule.Work.{Work}
use Rattle.eb_claims.specs.Claiming.{work, most_items, most_workers}

-- claims: which table they share, and how many items and workers there are
pub record Known : Type 0 where
  pub table : TableId
  pub items : ℕ
  pub workers : ℕ

abbrev pub known : TableId → ℕ → ℕ → Known
known t i w = record { table = t; items = i; workers = w }

abbrev pub known_coded : Coded Known
known_coded = code_by (TableId × (ℕ × ℕ)) (coded× table_id_coded (coded× coded_ℕ coded_ℕ)) (λ k. (k.table, (k.items, k.workers))) (λ p. known p.0 p.1.0 p.1.1) (λ _. refl)

-- the table has one word and no slot, and was told these two numbers, which are within the limits
pub record IsOpen (t : TableId) (key : Work) (items workers : ℕ) : Type 0 where
  pub words : t.words ≡ 1
  pub slots : t.slots ≡ 0
  pub key_is : key ≡ work items workers
  pub items_fit : items ≤ most_items
  pub some_worker : 0 < workers
  pub workers_fit : workers ≤ most_workers

-- a seat: of which table it is, and its view
pub record Held : Type 0 where
  pub table : TableId
  pub view : View

abbrev pub held : TableId → View → Held
held t v = record { table = t; view = v }

abbrev pub held_coded : Coded View → Coded Held
held_coded c = code_by (TableId × View) (coded× table_id_coded c) (λ h. (h.table, h.view)) (λ p. held p.0 p.1) (λ _. refl)

-- the seat with another view
abbrev pub with_view : Held → View → Held
with_view h v = held h.table v

-- the seat is of these claims, and has their numbers
pub record IsSeatOf (c : Known) (s : Held) : Type 0 where
  pub table : s.table ≡ c.table
  pub items : s.view.items ≡ c.items
  pub workers : s.view.workers ≡ c.workers
