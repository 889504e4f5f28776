-- The relation of a history and of its parts by keys: that of the whole has each row as often as the parts have
-- it together, and so gains and loses what they do.
use Rattle.std.proofs.Common.{◌≡◌, ℕ, suc, ◌+◌, ◌-◌, ◌*◌, Bool, true, false, cond, not, List, [], ◌∷◌, ◌++◌, length, ℤ, Option, Some, None, refl, sym, ap, ◌∙◌, arith}
use Rattle.std.proofs.lemmas.Bool.{true≢false}
use Rattle.std.specs.Prelude.{◌≢◌, filter, filter_map, flat_map, int_lt}
use Rattle.std.specs.List.{cons_option}
use Rattle.wsm_record.specs.declared.event.Value.{Value}
use Rattle.wsm_record.specs.declared.cell.Cell.{Cell}
use Rattle.wsm_record.specs.declared.words.Form.{Form}
use Rattle.wsm_record.specs.declared.words.Form.TheVariants as form
use Rattle.wsm_record.specs.Event.{Event, Record, Watermark}
use Rattle.wsm_windows.specs.declared.place.Place.{Place}
use Rattle.wsm_semantics.specs.Query.{Datum, Query, mark, raises}
use Rattle.wsm_semantics.specs.Panes.{held}
use Rattle.wsm_semantics.specs.declared.out_row.OutRow.{OutRow}
use Rattle.wsm_semantics.specs.Firings.{firings_so_far, pane_rows}
use Rattle.wsm_semantics.specs.Retractions.{retract_rows}
use Rattle.wsm_semantics.specs.Relation.{relation_at, relation, sorted_rows, difference, stream_rows, chosen_rows}
use Rattle.wsm_semantics.specs.RowCounts.{IsInOrder, count_of}
use Rattle.wsm_semantics.specs.ByKey.{Keys, others, of_keys, HasRoom, IgnoresTurns, is_at, EachOnce, of_parts, netted, gains, losses, rows_of_stream, StreamsWrite, RelationsAddUp, AreNetted, PartsAddUp}
use Rattle.wsm_semantics.proofs.Effects.{stays_down}
use Rattle.wsm_semantics.proofs.KeyParts.{mark_of_part}
use Rattle.wsm_semantics.proofs.StepTurns.{turn}
use Rattle.wsm_semantics.proofs.KeyTurns.{steps_of}
use Rattle.wsm_semantics.proofs.KeyFirings.{all_of_part, image, turn_of_part}
use Rattle.wsm_semantics.proofs.Moves.{own}
use Rattle.wsm_semantics.proofs.ImageRows.{rows_standing, standing_row}
use Rattle.wsm_semantics.proofs.RowBags.{once, count-append, count-sorted_rows, count-difference, sorted_rows-in_order, difference-in_order, one_list}

-- ---- rows of parts

module _ {A : Type 0} (r : List Cell) where
  count-alike : (f g : A → List (List Cell)) → ((x : A) → count_of r (f x) ≡ count_of r (g x)) → (xs : List A) → count_of r (flat_map f xs) ≡ count_of r (flat_map g xs)
  count-alike f g same [] = refl
  count-alike f g same (x ∷ xs) =
      count-append r (f x) (flat_map f xs) ∙ (λ i. same x i + count-alike f g same xs i) ∙ sym (count-append r (g x) (flat_map g xs))

  count-nothing : (xs : List A) → count_of r (flat_map (λ _. []) xs) ≡ 0
  count-nothing [] = refl
  count-nothing (x ∷ xs) = count-nothing xs

-- how often a row is what one gives
abbrev given : List Cell → Option (List Cell) → ℕ
given r None = 0
given r (Some row) = once r row

count-given : (r : List Cell) (o : Option (List Cell)) (rows : List (List Cell)) → count_of r (cons_option o rows) ≡ given r o + count_of r rows
count-given r None rows = omega arith
count-given r (Some row) rows = refl

module _ {A : Type 0} (r : List Cell) (g : A → Option (List Cell)) (is_in : Keys → A → Bool) where
  -- one more is in as many parts as have it
  one_more : (x : A) (xs : List A) (parts : List Keys) →
      count_of r (flat_map (λ keys. filter_map g (filter (is_in keys) (x ∷ xs))) parts)
      ≡ length (filter (λ keys. is_in keys x) parts) * given r (g x) + count_of r (flat_map (λ keys. filter_map g (filter (is_in keys) xs)) parts)
  one_more x xs [] = omega arith
  one_more x xs (keys ∷ parts) =
      let here : List (List Cell) = filter_map g (filter (is_in keys) xs) in
      let rest : List (List Cell) = flat_map (λ keys. filter_map g (filter (is_in keys) xs)) parts in
      let n : ℕ = length (filter (λ keys. is_in keys x) parts) in
      let m : ℕ = given r (g x) in
      let before : count_of r (flat_map (λ keys. filter_map g (filter (is_in keys) (x ∷ xs))) parts) ≡ n * m + count_of r rest = one_more x xs parts in
      let both : count_of r (here ++ rest) ≡ count_of r here + count_of r rest = count-append r here rest in
      let first : count_of r (cons_option (g x) here) ≡ m + count_of r here = count-given r (g x) here in
      let more : suc n * m ≡ n * m + m = omega arith in
      count-append r (filter_map g (filter (is_in keys) (x ∷ xs))) (flat_map (λ keys. filter_map g (filter (is_in keys) (x ∷ xs))) parts)
      ∙ elim (is_in keys x) as (λ b. count_of r (filter_map g (cond b (x ∷ filter (is_in keys) xs) (filter (is_in keys) xs))) + count_of r (flat_map (λ keys. filter_map g (filter (is_in keys) (x ∷ xs))) parts)
      ≡ length (cond b (keys ∷ filter (λ keys. is_in keys x) parts) (filter (λ keys. is_in keys x) parts)) * m + count_of r (here ++ rest)) [
        | true ↦ omega arith
        | false ↦ omega arith
      ]

  -- where each is in one part, the parts have what all give
  all_in_parts : (parts : List Keys) → ((x : A) → length (filter (λ keys. is_in keys x) parts) ≡ 1) → (xs : List A) →
      count_of r (flat_map (λ keys. filter_map g (filter (is_in keys) xs)) parts) ≡ count_of r (filter_map g xs)
  all_in_parts parts each [] = count-nothing r parts
  all_in_parts parts each (x ∷ xs) =
      one_more x xs parts
      ∙ (λ i. each x i * given r (g x) + all_in_parts parts each xs i)
      ∙ (let single : 1 * given r (g x) + count_of r (filter_map g xs) ≡ given r (g x) + count_of r (filter_map g xs) = omega arith in single)
      ∙ sym (count-given r (g x) (filter_map g xs))

-- what parts have more, and what they have less, is what they have now without what they had
more_and_less : {A : Type 0} (r : List Cell) (now before : A → List (List Cell)) (xs : List A) →
    count_of r (flat_map (λ x. difference (now x) (before x)) xs) + count_of r (flat_map before xs) ≡ count_of r (flat_map (λ x. difference (before x) (now x)) xs) + count_of r (flat_map now xs)
more_and_less r now before [] = refl
more_and_less r now before (x ∷ xs) =
    let more : List (List Cell) = flat_map (λ x. difference (now x) (before x)) xs in
    let less : List (List Cell) = flat_map (λ x. difference (before x) (now x)) xs in
    let rest : count_of r more + count_of r (flat_map before xs) ≡ count_of r less + count_of r (flat_map now xs) = more_and_less r now before xs in
    let a : count_of r (difference (now x) (before x) ++ more) ≡ count_of r (difference (now x) (before x)) + count_of r more = count-append r (difference (now x) (before x)) more in
    let b : count_of r (difference (before x) (now x) ++ less) ≡ count_of r (difference (before x) (now x)) + count_of r less = count-append r (difference (before x) (now x)) less in
    let c : count_of r (before x ++ flat_map before xs) ≡ count_of r (before x) + count_of r (flat_map before xs) = count-append r (before x) (flat_map before xs) in
    let d : count_of r (now x ++ flat_map now xs) ≡ count_of r (now x) + count_of r (flat_map now xs) = count-append r (now x) (flat_map now xs) in
    let m : count_of r (difference (now x) (before x)) ≡ count_of r (now x) - count_of r (before x) = count-difference r (now x) (before x) in
    let l : count_of r (difference (before x) (now x)) ≡ count_of r (before x) - count_of r (now x) = count-difference r (before x) (now x) in
    omega arith

module _ (q : Query) (ignores : IgnoresTurns q) where
  -- the rows that stand for panes of the keys, where a watermark rises, are those of the part
  rows_of_part : (keys : Keys) (past : List Event) (o : Option ℕ) (t : ℤ) → HasRoom q (Watermark o t ∷ past) → raises q past (Watermark o t) ≡ true →
      filter_map (standing_row q (firings_so_far q (Watermark o t ∷ past))) (filter (λ x. is_at keys x.0) (held q past))
      ≡ filter_map (standing_row q (firings_so_far q (Watermark o t ∷ of_keys keys past))) (held q (of_keys keys past))
  rows_of_part keys past o t room up =
      let w : Event = Watermark o t in
      rows_standing q (own q) (image q keys past) (ignores (turn [] [] 0 (steps_of keys past))) past (of_keys keys past) w w (turn_of_part q keys past w room refl) up
      ∙ ap (filter_map (standing_row q (firings_so_far q (w ∷ of_keys keys past)))) (all_of_part q keys past w refl).held

  -- ---- the relation

  -- a record leaves it
  after_record : (past : List Event) (k : Option ℕ) (t : ℤ) (vs : List Value) → relation q (Record k t vs ∷ past) ≡ relation q past
  after_record past k t vs = ap (λ (b : Bool). cond b (relation_at q past (Record k t vs)) (relation q past)) (stays_down q past (Record k t vs) refl)

  record_of_part : (keys : Keys) (past : List Event) (k : Option ℕ) (t : ℤ) (vs : List Value) → relation q (of_keys keys (Record k t vs ∷ past)) ≡ relation q (of_keys keys past)
  record_of_part keys past k t vs =
      elim (keys k) as (λ b. relation q (cond b (Record k t vs ∷ of_keys keys past) (of_keys keys past)) ≡ relation q (of_keys keys past)) [
        | true ↦ after_record (of_keys keys past) k t vs
        | false ↦ refl
      ]

  raises_alike : (keys : Keys) (past : List Event) (o : Option ℕ) (t : ℤ) → raises q (of_keys keys past) (Watermark o t) ≡ raises q past (Watermark o t)
  raises_alike keys past o t = λ i. int_lt (mark_of_part q keys past i) (mark_of_part q keys (Watermark o t ∷ past) i)

  relation_in_order : (past : List Event) → IsInOrder (relation q past)
  relation_in_order [] = tt
  relation_in_order (e ∷ past) =
      elim (raises q past e) as (λ b. IsInOrder (cond b (relation_at q past e) (relation q past))) [
        | true ↦ sorted_rows-in_order (filter_map (standing_row q (firings_so_far q (e ∷ past))) (held q past))
        | false ↦ relation_in_order past
      ]

  module _ (parts : List Keys) (each : EachOnce parts) where
    at_watermark : (r : List Cell) (past : List Event) (o : Option ℕ) (t : ℤ) → HasRoom q (Watermark o t ∷ past) → raises q past (Watermark o t) ≡ true →
        count_of r (of_parts parts past (λ part. relation_at q part (Watermark o t))) ≡ count_of r (relation_at q past (Watermark o t))
    at_watermark r past o t room up =
        let g : Place × List Datum → Option (List Cell) = standing_row q (firings_so_far q (Watermark o t ∷ past)) in
        count-alike r (λ keys. relation_at q (of_keys keys past) (Watermark o t)) (λ keys. filter_map g (filter (λ x. is_at keys x.0) (held q past)))
        (λ keys. count-sorted_rows r (filter_map (standing_row q (firings_so_far q (Watermark o t ∷ of_keys keys past))) (held q (of_keys keys past))) ∙ ap (count_of r) (sym (rows_of_part keys past o t room up))) parts
        ∙ all_in_parts r g (λ keys x. is_at keys x.0) parts (λ x. each (Some x.0.key)) (held q past)
        ∙ sym (count-sorted_rows r (filter_map g (held q past)))

    all_have : (r : List Cell) (past : List Event) → HasRoom q past → count_of r (of_parts parts past (relation q)) ≡ count_of r (relation q past)
    all_have r [] room = count-nothing r parts
    all_have r (Record k t vs ∷ past) room =
        count-alike r (λ keys. relation q (of_keys keys (Record k t vs ∷ past))) (λ keys. relation q (of_keys keys past)) (λ keys. ap (count_of r) (record_of_part keys past k t vs)) parts
        ∙ all_have r past room.1
        ∙ ap (count_of r) (sym (after_record past k t vs))
    all_have r (Watermark o t ∷ past) room =
        let w : Event = Watermark o t in
        count-alike r (λ keys. relation q (w ∷ of_keys keys past)) (λ keys. cond (raises q past w) (relation_at q (of_keys keys past) w) (relation q (of_keys keys past)))
        (λ keys. ap (λ (b : Bool). count_of r (cond b (relation_at q (of_keys keys past) w) (relation q (of_keys keys past)))) (raises_alike keys past o t)) parts
        ∙ elim (raises q past w) as (λ b. raises q past w ≡ b → count_of r (flat_map (λ keys. cond b (relation_at q (of_keys keys past) w) (relation q (of_keys keys past))) parts) ≡ count_of r (cond b (relation_at q past w) (relation q past))) [
          | true ↦ λ up. at_watermark r past o t room up
          | false ↦ λ _. all_have r past room.1
        ] refl

    relation_together : RelationsAddUp q parts
    relation_together past room =
        let all : List (List Cell) = of_parts parts past (relation q) in
        one_list (relation q past) (sorted_rows all) (relation_in_order past) (sorted_rows-in_order all) (λ r. sym (count-sorted_rows r all ∙ all_have r past room))

    left_over : (a b c d m n : ℕ) → a + n ≡ b + m → c ≡ m → d ≡ n → c - d ≡ a - b
    left_over a b c d m n h k l = omega arith

    -- the difference of relations by those of the parts
    netted_of : (now before : List (List Cell)) (new old : Keys → List (List Cell)) → IsInOrder now →
        ((r : List Cell) → count_of r (flat_map new parts) ≡ count_of r now) → ((r : List Cell) → count_of r (flat_map old parts) ≡ count_of r before) →
        difference now before ≡ netted (flat_map (λ keys. difference (new keys) (old keys)) parts) (flat_map (λ keys. difference (old keys) (new keys)) parts)
    netted_of now before new old sorted are were =
        let more : List (List Cell) = flat_map (λ keys. difference (new keys) (old keys)) parts in
        let less : List (List Cell) = flat_map (λ keys. difference (old keys) (new keys)) parts in
        one_list (difference now before) (netted more less) (difference-in_order now before sorted) (sorted_rows-in_order (difference more less))
        (λ r.
        count-difference r now before
        ∙ left_over (count_of r more) (count_of r less) (count_of r now) (count_of r before) (count_of r (flat_map new parts)) (count_of r (flat_map old parts)) (more_and_less r new old parts) (sym (are r)) (sym (were r))
        ∙ sym (count-sorted_rows r (difference more less) ∙ count-difference r more less))

    gained_by : AreNetted gains losses q parts
    gained_by past (Record k t vs) room risen = absurd (true≢false (sym risen ∙ stays_down q past (Record k t vs) refl))
    gained_by past (Watermark o t) room risen =
        let w : Event = Watermark o t in
        netted_of (relation q (w ∷ past)) (relation q past) (λ keys. relation q (w ∷ of_keys keys past)) (λ keys. relation q (of_keys keys past))
        (relation_in_order (w ∷ past)) (λ r. all_have r (w ∷ past) room) (λ r. all_have r past room.1)

    lost_by : AreNetted losses gains q parts
    lost_by past (Record k t vs) room risen = absurd (true≢false (sym risen ∙ stays_down q past (Record k t vs) refl))
    lost_by past (Watermark o t) room risen =
        let w : Event = Watermark o t in
        netted_of (relation q past) (relation q (w ∷ past)) (λ keys. relation q (of_keys keys past)) (λ keys. relation q (w ∷ of_keys keys past))
        (relation_in_order past) (λ r. all_have r past room.1) (λ r. all_have r (w ∷ past) room)

    -- the relations of parts add up, and what they gain and lose
    pub parts_add_up : PartsAddUp q parts
    parts_add_up = record { together = relation_together; gained = gained_by; lost = lost_by }

-- ---- the rows of streams

pub streams_write : (q : Query) → StreamsWrite q
streams_write q past e streams risen = by_form q.form streams where
  panes : List OutRow
  panes = retract_rows q.mode q past e ++ pane_rows q past e

  now_is : relation_at q past e ≡ relation q (e ∷ past)
  now_is = sym (ap (λ (b : Bool). cond b (relation_at q past e) (relation q past)) risen)

  at_rise : (f : Form) → cond (raises q past e) (stream_rows f (mark q (e ∷ past)) (relation q past) (relation_at q past e)) [] ≡ stream_rows f (mark q (e ∷ past)) (relation q past) (relation q (e ∷ past))
  at_rise f =
      ap (λ (b : Bool). cond b (stream_rows f (mark q (e ∷ past)) (relation q past) (relation_at q past e)) []) risen
      ∙ ap (stream_rows f (mark q (e ∷ past)) (relation q past)) now_is

  by_form : (f : Form) → f ≢ form.Panes → chosen_rows f panes (cond (raises q past e) (stream_rows f (mark q (e ∷ past)) (relation q past) (relation_at q past e)) []) ≡ rows_of_stream f (mark q (e ∷ past)) (gains q past e) (losses q past e) (relation q (e ∷ past))
  by_form form.Panes h = absurd (h refl)
  by_form form.Istream h = at_rise form.Istream
  by_form form.Dstream h = at_rise form.Dstream
  by_form form.Rstream h = at_rise form.Rstream

-- two parts, of some keys and of all others
pub two_parts : (keys : Keys) → EachOnce (keys ∷ others keys ∷ [])
two_parts keys key =
    elim (keys key) as (λ b. length (cond b (keys ∷ cond (not b) (others keys ∷ []) []) (cond (not b) (others keys ∷ []) [])) ≡ 1) [
      | true ↦ refl
      | false ↦ refl
    ]
