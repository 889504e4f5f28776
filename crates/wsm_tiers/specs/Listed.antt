-- What a clause sees of a list in tiers.
use Rattle.std.specs.Prelude.{ℕ, List, refl}
use Rattle.std.specs.Coded.{Coded, code_by, coded×, coded_list, coded_ℕ}

-- the items, in their order, and for how many there is room
pub record Listed (T : Type 0) : Type 0 where
  pub items : List T
  pub room : ℕ

-- a list is stored as the pair of its fields
abbrev pub listed_code : {T : Type 0} → Coded T → Coded (Listed T)
listed_code {T} c = code_by (List T × ℕ) (coded× (coded_list c) coded_ℕ) (λ l. (l.items, l.room)) (λ p. record { items = p.0; room = p.1 }) (λ _. refl)
