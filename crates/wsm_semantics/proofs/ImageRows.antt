-- A history of which another is the image, where rows go by no turn and by the numbers of keys alike: the same rows are
-- written, each key by its number, and where all panes count the relation is the same.
use Rattle.std.proofs.Common.{◌≡◌, ℕ, Bool, true, false, cond, List, [], ◌∷◌, ◌++◌, map, ℤ, Option, Some, None, refl, sym, ap, ◌∙◌}
use Rattle.std.proofs.lemmas.Bool.{true≢false}
use Rattle.std.proofs.lemmas.List.{map-append}
use Rattle.std.specs.Prelude.{filter, filter_map, int_lt, option_and_then, option_map}
use Rattle.std.specs.List.{AllByRecursion}
use Rattle.wsm_record.specs.declared.cell.Cell.{Cell}
use Rattle.wsm_record.specs.declared.words.Form.{Form}
use Rattle.wsm_record.specs.declared.words.Form.TheVariants as form
use Rattle.wsm_record.specs.declared.words.Mode.{Mode}
use Rattle.wsm_record.specs.declared.words.Mode.TheVariants.{Discarding, Accumulating, Retracting}
use Rattle.wsm_record.specs.Event.{Event, Record, Watermark}
use Rattle.wsm_windows.specs.declared.place.Place.{Place}
use Rattle.wsm_windows.specs.Places.{window_of}
use Rattle.wsm_semantics.specs.declared.out_row.OutRow.{OutRow}
use Rattle.wsm_semantics.specs.declared.out_row.OutRow.TheVariants.{Pane, Retract, Istream, Dstream, Rstream}
use Rattle.wsm_semantics.specs.Query.{Datum, Query, mark, raises, selection_of}
use Rattle.wsm_semantics.specs.Panes.{held, is_live_at, panes}
use Rattle.wsm_semantics.specs.Firings.{Firing, firings, firings_so_far, row_of, pane_rows}
use Rattle.wsm_semantics.specs.StandingFirings.{standing}
use Rattle.wsm_semantics.specs.Retractions.{written_of, by_place, retract_row, retracted, retract_rows}
use Rattle.wsm_semantics.specs.Relation.{sorted_rows, difference, relation, relation_at, stream_rows, chosen_rows, streamed, turn_rows}
use Rattle.wsm_semantics.specs.ByNumber.{row_by}
use Rattle.wsm_semantics.proofs.Lists.{all-each, filter-all}
use Rattle.wsm_semantics.proofs.Each.{all-any, filter_map-each, filter_map-map, map-map}
use Rattle.wsm_semantics.proofs.Effects.{selects_none, stays_down}
use Rattle.wsm_semantics.proofs.Tables.{among}
use Rattle.wsm_semantics.proofs.Turns.{places-same, contents-same}
use Rattle.wsm_semantics.proofs.ShownPanes.{IsPane, each_pane}
use Rattle.wsm_semantics.proofs.KeptLaw.{streamed-up, streamed-down}
use Rattle.wsm_semantics.proofs.Given.{filter_map-image}
use Rattle.wsm_semantics.proofs.Moves.{Moves, Own, like, moved, pane_moved, firing_moved}
use Rattle.wsm_semantics.proofs.WrittenOrder.{Written, written_moved, by_place-moved}
use Rattle.wsm_semantics.proofs.Counted.{AllAt, fired_at, gone_at, is_pane_at, pane_rows_at, retract_rows_at, rows_all}
use Rattle.wsm_semantics.proofs.ImageFirings.{Image, FiredAlike, IsOfBoth, PanesAlike, of_both}
use Rattle.wsm_semantics.proofs.ImageStanding.{Told, Turn, held_alike, gone_alike, gone_none, standing_alike}

-- rows of records that are moved
abbrev pub RowsMoved : Query → Own → Moves → Type 0
RowsMoved q o m = (key : ℕ) (ds : List Datum) → q.row (m.key key) (map (moved m) ds) ≡ o.row key ds

-- keys that have their own numbers
pub row_itself : (y : OutRow) → row_by (λ key. key) y ≡ y
row_itself (Pane kind key window columns) = refl
row_itself (Retract key window columns) = refl
row_itself (Istream mark columns) = refl
row_itself (Dstream mark columns) = refl
row_itself (Rstream mark columns) = refl

-- the row of what stands for a pane, by all firings so far
abbrev pub standing_row : Query → List Firing → Place × List Datum → Option (List Cell)
standing_row q fs y = option_and_then (λ f. q.row f.place.key f.fired) (standing q fs y.0 y.1)

-- what raises the watermark leaves the panes
still : (q : Query) (past : List Event) (e : Event) → raises q past e ≡ true → (y : Place × List Datum) → IsPane q past y → IsPane q (e ∷ past) y
still q past e raised y is = (is.0 ∙ sym (contents-same q past e (none e raised) y.0), ap (among y.0) (places-same q past e (none e raised)) ∙ is.1)
  where
    none : (e : Event) → raises q past e ≡ true → selection_of q past e ≡ []
    none (Record k t vs) up = absurd (true≢false (sym up ∙ stays_down q past (Record k t vs) refl))
    none (Watermark o t) up = selects_none q past o t

module _ (q : Query) (o : Own) (image : Image q o) where
  abbrev r : Query
  r = like q o

  abbrev m : Moves
  m = image.moves

  pub raises_alike : (whole part : List Event) (e d : Event) → Turn q o image whole part e d → raises q whole e ≡ raises r part d
  raises_alike whole part e d turn = sym (λ i. int_lt (turn.before.marks i) (turn.next.marks i))

  -- an event that the second lacks withdraws nothing
  pub retract_none : (whole part : List Event) (e : Event) → Told q o image whole part → Told q o image (e ∷ whole) part → (mode : Mode) → retract_rows_at q image.here mode whole e ≡ []
  retract_none whole part e told next Discarding = refl
  retract_none whole part e told next Accumulating = refl
  retract_none whole part e told next Retracting = ap (λ (fs : List Firing). retracted (filter_map (written_of q) fs)) (gone_none q o image whole part e told next)

  module _ (rows : RowsMoved q o m) where
    -- ---- rows of firings

    row_moved : (g : Firing) → row_of q (firing_moved m g) ≡ option_map (row_by m.key) (row_of r g)
    row_moved g = ap (option_map (Pane g.kind (m.key g.place.key) (window_of g.place))) (rows g.place.key g.fired) ∙ mapped (o.row g.place.key g.fired) where
      mapped : (c : Option (List Cell)) → option_map (Pane g.kind (m.key g.place.key) (window_of g.place)) c ≡ option_map (row_by m.key) (option_map (Pane g.kind g.place.key (window_of g.place)) c)
      mapped None = refl
      mapped (Some columns) = refl

    written_alike : (g : Firing) → written_of q (firing_moved m g) ≡ option_map (written_moved m) (written_of r g)
    written_alike g = ap (option_map (λ columns. ((firing_moved m g).place, columns))) (rows g.place.key g.fired) ∙ mapped (o.row g.place.key g.fired) where
      mapped : (c : Option (List Cell)) → option_map (λ columns. ((firing_moved m g).place, columns)) c ≡ option_map (written_moved m) (option_map (λ columns. (g.place, columns)) c)
      mapped None = refl
      mapped (Some columns) = refl

    pub pane_rows_alike : (whole part : List Event) (e d : Event) → FiredAlike q o image (firings q whole e) (firings r part d) → pane_rows_at q image.here whole e ≡ map (row_by m.key) (pane_rows_at r image.there part d)
    pane_rows_alike whole part e d alike =
        let gs : List Firing = filter (fired_at image.there) (firings r part d) in
        ap (filter_map (row_of q)) alike
        ∙ filter_map-image (row_of q) (firing_moved m) (row_of r) (row_by m.key) gs (all-any (λ g. row_of q (firing_moved m g) ≡ option_map (row_by m.key) (row_of r g)) row_moved gs)

    module _ (whole part : List Event) (e d : Event) (turn : Turn q o image whole part e d) where
      pub retract_rows_alike : (mode : Mode) → retract_rows_at q image.here mode whole e ≡ map (row_by m.key) (retract_rows_at r image.there mode part d)
      retract_rows_alike Discarding = refl
      retract_rows_alike Accumulating = refl
      retract_rows_alike Retracting =
          let gs : List Firing = gone_at r image.there part d in
          let ws : List Written = filter_map (written_of r) gs in
          ap (λ (ws : List Written). map retract_row (by_place ws))
          (ap (filter_map (written_of q)) (gone_alike q o image whole part e turn.before d turn.next)
          ∙ filter_map-image (written_of q) (firing_moved m) (written_of r) (written_moved m) gs (all-any (λ g. written_of q (firing_moved m g) ≡ option_map (written_moved m) (written_of r g)) written_alike gs))
          ∙ ap (map retract_row) (by_place-moved m ws)
          ∙ map-map retract_row (written_moved m) (by_place ws)
          ∙ sym (map-map (row_by m.key) retract_row (by_place ws))

      pub rows_at_alike : retract_rows_at q image.here q.mode whole e ++ pane_rows_at q image.here whole e ≡ map (row_by m.key) (retract_rows_at r image.there q.mode part d ++ pane_rows_at r image.there part d)
      rows_at_alike =
          (λ i. retract_rows_alike q.mode i ++ pane_rows_alike whole part e d turn.fired i)
          ∙ sym (map-append (row_by m.key) (retract_rows_at r image.there q.mode part d) (pane_rows_at r image.there part d))

      -- ---- the relation

      row_standing : (s : Option Firing) → option_and_then (λ (f : Firing). q.row f.place.key f.fired) (option_map (firing_moved m) s) ≡ option_and_then (λ (f : Firing). o.row f.place.key f.fired) s
      row_standing None = refl
      row_standing (Some g) = rows g.place.key g.fired

      -- the rows that stand for the panes that count, where the watermark rises
      pub rows_standing : raises q whole e ≡ true →
          filter_map (standing_row q (firings_so_far q (e ∷ whole))) (filter (is_pane_at image.here) (held q whole)) ≡ filter_map (standing_row r (firings_so_far r (d ∷ part))) (filter (is_pane_at image.there) (held r part))
      rows_standing up =
          let fs : List Firing = firings_so_far q (e ∷ whole) in
          let gs : List Firing = firings_so_far r (d ∷ part) in
          let xs : List (Place × List Datum) = held q whole in
          let ys : List (Place × List Datum) = held r part in
          let zs : List (Place × List Datum) = filter (is_pane_at image.there) ys in
          let up_there : raises r part d ≡ true = sym (raises_alike whole part e d turn) ∙ up in
          let same : PanesAlike q o image xs ys = held_alike q o image whole part turn.before in
          let in_first : AllByRecursion (IsPane q (e ∷ whole)) xs =
          all-each (IsPane q whole) (IsPane q (e ∷ whole)) xs (still q whole e up) (filter-all (IsPane q whole) (λ y. is_live_at q (mark q whole) y.0) (panes q whole) (each_pane q whole)) in
          let in_second : AllByRecursion (IsPane r (d ∷ part)) ys =
          all-each (IsPane r part) (IsPane r (d ∷ part)) ys (still r part d up_there) (filter-all (IsPane r part) (λ y. is_live_at r (mark r part) y.0) (panes r part) (each_pane r part)) in
          ap (filter_map (standing_row q fs)) same
          ∙ filter_map-map (standing_row q fs) (pane_moved m) zs
          ∙ filter_map-each (λ y. standing_row q fs (pane_moved m y)) (standing_row r gs) zs
          (all-each (IsOfBoth q o image (e ∷ whole) (d ∷ part)) (λ y. standing_row q fs (pane_moved m y) ≡ standing_row r gs y) zs
          (λ y is. ap (option_and_then (λ (f : Firing). q.row f.place.key f.fired)) (standing_alike q o image (e ∷ whole) (d ∷ part) turn.next.fired y is) ∙ row_standing (standing r gs y.0 y.1))
          (of_both q o image (e ∷ whole) (d ∷ part) xs ys same in_first in_second))

      -- ---- where all panes count

      module _ (all : AllAt q image.here whole e) (all_there : AllAt r image.there part d) where
        pub panes_alike : retract_rows q.mode q whole e ++ pane_rows q whole e ≡ map (row_by m.key) (retract_rows q.mode r part d ++ pane_rows r part d)
        panes_alike = sym (rows_all q image.here whole e all) ∙ rows_at_alike ∙ ap (map (row_by m.key)) (rows_all r image.there part d all_there)

        pub relation_risen : raises q whole e ≡ true → relation_at q whole e ≡ relation_at r part d
        relation_risen up =
            ap (λ (ys : List (Place × List Datum)). sorted_rows (filter_map (standing_row q (firings_so_far q (e ∷ whole))) ys)) (sym all.held)
            ∙ ap sorted_rows (rows_standing up)
            ∙ ap (λ (ys : List (Place × List Datum)). sorted_rows (filter_map (standing_row r (firings_so_far r (d ∷ part))) ys)) all_there.held

        pub relation_next : relation q whole ≡ relation r part → relation q (e ∷ whole) ≡ relation r (d ∷ part)
        relation_next was =
            ap (λ (b : Bool). cond b (relation_at q whole e) (relation q whole)) (raises_alike whole part e d turn)
            ∙ elim (raises r part d) as (λ b. raises r part d ≡ b → cond b (relation_at q whole e) (relation q whole) ≡ cond b (relation_at r part d) (relation r part)) [
              | true ↦ λ up. relation_risen (raises_alike whole part e d turn ∙ up)
              | false ↦ λ _. was
            ] refl

        -- rows of streams have no key
        streams_stay : (f : Form) (w : ℤ) (before now : List (List Cell)) → stream_rows f w before now ≡ map (row_by m.key) (stream_rows f w before now)
        streams_stay form.Panes w before now = refl
        streams_stay form.Istream w before now = sym (map-map (row_by m.key) (Istream w) (difference now before))
        streams_stay form.Dstream w before now = sym (map-map (row_by m.key) (Dstream w) (difference before now))
        streams_stay form.Rstream w before now = sym (map-map (row_by m.key) (Rstream w) now)

        streamed_alike : relation q whole ≡ relation r part → streamed q whole e ≡ map (row_by m.key) (streamed r part d)
        streamed_alike was =
            elim (raises r part d) as (λ b. raises r part d ≡ b → streamed q whole e ≡ map (row_by m.key) (streamed r part d)) [
              | true ↦ λ up.
                  let risen : raises q whole e ≡ true = raises_alike whole part e d turn ∙ up in
                  streamed-up q whole e risen
                  ∙ (λ i. stream_rows q.form (sym turn.next.marks i) (was i) (relation_risen risen i))
                  ∙ streams_stay q.form (mark r (d ∷ part)) (relation r part) (relation_at r part d)
                  ∙ ap (map (row_by m.key)) (sym (streamed-up r part d up))
              | false ↦ λ down. streamed-down q whole e (raises_alike whole part e d turn ∙ down) ∙ ap (map (row_by m.key)) (sym (streamed-down r part d down))
            ] refl

        chosen_alike : (f : Form) (of_panes of_stream : List OutRow) → chosen_rows f (map (row_by m.key) of_panes) (map (row_by m.key) of_stream) ≡ map (row_by m.key) (chosen_rows f of_panes of_stream)
        chosen_alike form.Panes of_panes of_stream = refl
        chosen_alike form.Istream of_panes of_stream = refl
        chosen_alike form.Dstream of_panes of_stream = refl
        chosen_alike form.Rstream of_panes of_stream = refl

        pub rows_alike : relation q whole ≡ relation r part → turn_rows q whole e ≡ map (row_by m.key) (turn_rows r part d)
        rows_alike was =
            (λ i. chosen_rows q.form (panes_alike i) (streamed_alike was i))
            ∙ chosen_alike q.form (retract_rows q.mode r part d ++ pane_rows r part d) (streamed r part d)
