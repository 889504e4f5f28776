-- After some lines, and at the end of a log.
use Rattle.std.proofs.Common.{◌≡◌, ◌≤◌, ◌<◌, ℕ, Bool, true, false, ◌||◌, List, [], ◌∷◌, ◌++◌, length, map, pos, Some, refl, sym, ap, subst, ◌∙◌, arith}
use Rattle.std.proofs.lemmas.Bool.{true≢false}
use Rattle.std.proofs.lemmas.List.{append-nil}
use Rattle.std.proofs.lemmas.List.Elements.{All-append, All-contains_itself, All-from_recursion, Contains-append_left, Contains-append_right, Contains-push, recursion_from_All}
use Rattle.std.proofs.lemmas.List.Sorted.{IsPermutation-trans}
use Rattle.std.proofs.lemmas.Slice.Eq.{bytes_eq-Decides}
use Rattle.std.specs.Prelude.{Contains, IsPermutation, bytes_eq}
use Rattle.std.specs.List.{AllByRecursion, list_any}
use Rattle.wsm_record.specs.Event.{Event}
use Rattle.wsm_watermarks.specs.declared.held.Timed.{Timed}
use Rattle.wsm_watermarks.specs.Held.{all_passed, last_mark, rows_of}
use Rattle.wsm_watermarks.proofs.KeptRows.{all_weaker, rows_all}
use Rattle.wsm_semantics.specs.Query.{Query}
use Rattle.wsm_semantics.specs.Deliveries.{passing}
use Rattle.wsm_doubles.specs.Memory.{Memory}
use Rattle.wsm_doubles.specs.Passing.{IsNumbered, SentText, TextDelivery, TextPassing, numbered_delivery, passing_texts}
use Rattle.wsm_turns.specs.declared.clocks.Clocks.{Clocks}
use Rattle.wsm_turns.specs.Numbered.{Numbered}
use Rattle.wsm_turns.specs.Turns.{Kept, Said, at_end, fed_with, kept, numbered, setting_of}
use Rattle.wsm_turn_laws.specs.Delivered.{EndsDeliveries, FeedsDeliveries, Suits, IsPassed, AllLeaveMark, delivered, identifier_at, records_of}
use Rattle.wsm_turn_laws.proofs.Counts.{any-of_count}
use Rattle.wsm_turn_laws.proofs.Following.{Follows, OwnNumbers}
use Rattle.wsm_turn_laws.proofs.Items.{behind_all, items_go, last_all}
use Rattle.wsm_turn_laws.proofs.Lines.{are_named, follows}
use Rattle.wsm_turn_laws.proofs.Standing.{GoesOn, Stands, held, sent, times}

abbrev Row : Type 0
Row = Timed Numbered

abbrev pub ByNumber : Type 0
ByNumber = (q : Query) (ds : List TextDelivery) → IsNumbered (passing_texts q ds) (passing q (map numbered_delivery ds))

-- those that wait by their identifiers and times, and by their identifiers
abbrev held_rows : (ℕ → List ℕ) → List Row → Memory
held_rows name rows = map (λ r. (name r.row.number, pos r.time)) rows

abbrev names : (ℕ → List ℕ) → List Row → List (List ℕ)
names name rows = map (λ r. name r.row.number) rows

-- what stands there so often is there
contained : (name : ℕ → List ℕ) (i : List ℕ) (rows : List Row) → list_any (λ k. bytes_eq i k.0) (held_rows name rows) ≡ true → Contains (names name rows) i
contained name i [] h = absurd (true≢false (sym h))
contained name i (r ∷ rows) h = one (bytes_eq i (name r.row.number)) refl h (contained name i rows)
  where
    one : (b : Bool) → bytes_eq i (name r.row.number) ≡ b → (b || list_any (λ k. bytes_eq i k.0) (held_rows name rows)) ≡ true → (list_any (λ k. bytes_eq i k.0) (held_rows name rows) ≡ true → Contains (names name rows) i) → Contains (names name (r ∷ rows)) i
    one true is k f =
        let same : i ≡ name r.row.number = (bytes_eq-Decides i (name r.row.number)).0 is in
        subst (λ (j : List ℕ). Contains (names name (r ∷ rows)) j) (sym same) (Contains-append_left (name r.row.number ∷ []) (names name rows) (name r.row.number) (Contains-push [] (name r.row.number)))
    one false is k f = Contains-append_right (name r.row.number ∷ []) (names name rows) i (f k)

through : (q : Query) (name : ℕ → List ℕ) (P : List ℕ → Type 0) (rows : List Row) → AllByRecursion P (names name rows) → AllByRecursion (λ s. P s.identifier) (map (sent q name) rows)
through q name P [] all = tt
through q name P (r ∷ rows) all = (all.0, through q name P rows all.1)

passed_by : (q : Query) → ByNumber → (fed : List Event) (ds : List TextDelivery) → fed ≡ (passing_texts q ds).passed → IsPassed q fed ds
passed_by q by_number fed ds is = record { texts = is; numbers = is ∙ (by_number q ds).passed }

none_left : (ss : List SentText) → AllByRecursion (λ s. 0 < times s.identifier []) ss → ss ≡ []
none_left [] all = refl
none_left (s ∷ ss) all = let h : 0 < 0 = all.0 in absurd (omega (arith, h))

all_numbered : (number : ℕ) (rows : List Row) → map (numbered number) (all_passed rows) ≡ map (λ r. r.row) rows
all_numbered number [] = refl
all_numbered number (r ∷ rows) = ap (λ (gs : List Numbered). r.row ∷ gs) (all_numbered number rows)

module _ {F : Type 0} (own_numbers : OwnNumbers) (by_number : ByNumber) (q : Query) (c : Clocks) (ok : Suits c q) (lines : List (Said F)) (leave : AllLeaveMark lines) where
  abbrev k : Kept
  k = kept (setting_of (Some c) q) lines

  abbrev name : ℕ → List ℕ
  name = identifier_at q.declared lines

  abbrev all : List SentText
  all = delivered q.declared lines

  so_far : Follows q name c.rule (length lines) all k
  so_far = follows own_numbers q c name ok lines (are_named q.declared lines) leave

  pub feeds : FeedsDeliveries q c lines
  feeds =
      let h = so_far in
      let ids : List (List ℕ) = names name k.waits in
      record {
        deliveries = h.deliveries;
        waiting = h.doubles ++ map (sent q name) k.waits;
        fed = passed_by q by_number k.fed h.deliveries (sym h.fed ∙ ap (λ (o : TextPassing). o.passed) (sym h.is));
        records = h.brought;
        timed = λ time_of timed. (h.timed time_of timed).came_so;
        waits =
            All-append (λ s. Contains ids s.identifier) h.doubles (map (sent q name) k.waits)
            (All-from_recursion (λ s. Contains ids s.identifier) h.doubles
            (all_weaker (λ s. 0 < times s.identifier (held q name k.waits)) (λ s. Contains ids s.identifier) (λ s there. contained name s.identifier k.waits (any-of_count (λ e. bytes_eq s.identifier e.0) (held q name k.waits) there)) h.doubles h.stands.theirs))
            (All-from_recursion (λ s. Contains ids s.identifier) (map (sent q name) k.waits) (through q name (Contains ids) k.waits (recursion_from_All (Contains ids) ids (All-contains_itself ids))));
      }

  pub ends : EndsDeliveries q c lines
  ends =
      let h = so_far in
      let same : k.waits ≡ rows_of (all_passed k.waits) ++ [] = sym (append-nil (rows_of (all_passed k.waits)) ∙ rows_all k.waits) in
      let last : last_mark k.told (all_passed k.waits) ≤ k.told = let n = last_all k.told k.waits in omega (arith, n) in
      let go : GoesOn q name [] h.deliveries h.passing h.doubles k.waits [] k.told (map (numbered 0) (all_passed k.waits)) =
      subst (λ (rows : List Row). GoesOn q name [] h.deliveries h.passing h.doubles rows [] k.told (map (numbered 0) (all_passed k.waits))) (sym same)
      (items_go q name ok.shape ok.lateness (all_passed k.waits) 0 [] h.deliveries h.passing h.doubles k.told k.told h.is
      (subst (λ (rows : List Row). Stands q name h.passing h.doubles rows k.told) same h.stands) (behind_all k.told k.waits h.ahead) last) in
      let none : go.left ≡ [] = none_left go.left go.stands.theirs in
      let end : records_of go.deliveries ++ (go.left ++ []) ≡ records_of go.deliveries = ap (λ (ss : List SentText). records_of go.deliveries ++ (ss ++ [])) none ∙ append-nil (records_of go.deliveries) in
      let half : List SentText = records_of h.deliveries ++ (h.doubles ++ map (sent q name) k.waits) in
      record {
        deliveries = go.deliveries;
        fed = passed_by q by_number (fed_with k.fed (at_end k)) go.deliveries
            (sym (go.passed ∙ (λ j. fed_with (h.fed j) (all_numbered 0 k.waits j))) ∙ ap (λ (o : TextPassing). o.passed) (sym go.is));
        records = subst (λ (ss : List SentText). IsPermutation all ss) end (IsPermutation-trans all half (records_of go.deliveries ++ (go.left ++ [])) h.brought go.brought);
        timed = λ time_of timed. (go.timed time_of tt (h.timed time_of timed)).came_so;
      }
