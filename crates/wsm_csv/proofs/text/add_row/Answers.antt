use Rattle.std.proofs.Common.{rules, to_z-of_z, w64, SFits, ◌≡◌, ◌++◌, ◌∷◌, [], List, ℕ, codes, map}
use Rattle.std.specs.Fmt.{signed_decimal}
use Rattle.wsm_semantics.specs.Text.{cell_text, joined, kind_word}
use Rattle.wsm_csv.specs.Lines.{cells_text}
use Rattle.wsm_csv.proofs.LineLemmas.{joined-split, joined-word, on_ok}
use Rattle.wsm_csv.proofs.text.add_row.Goals as goal

pub returns-in_ok-add_pane-in-Pane : goal.returns-in_ok-add_pane-in-Pane
returns-in_ok-add_pane-in-Pane c =
    let front : List (List ℕ) = kind_word c.in-Pane.kind ∷ c.args.name.now ∷ [] in
    let window : List (List ℕ) = signed_decimal c.in-Pane.window.start ∷ signed_decimal c.in-Pane.window.end ∷ [] in
    let back = window ++ map (cell_text c.args.schema.now) c.in-Pane.columns in
    rw c.in-Pane.is (on_ok c.add_window.result
    (c.add_window.new.out.items ≡ c.add_pane.new.out.items ++ cells_text (window ++ map (cell_text c.args.schema.now) c.as_slice.result.now))
    (c.add_window.new.out.items ≡ c.args.out.now.items ++ joined (codes "pane" ∷ (front ++ back)))
    (λ e. joined-split c.args.out.now.items c.add_window.new.out.items (codes "pane") front back (rw (c.as_slice.ensures, (c.in_ok-add_pane-in-Pane).ensures) at e))
    c.add_window.ensures)

pub returns-in-Istream : goal.returns-in-Istream
returns-in-Istream c =
    let fits : SFits w64 c.in-Istream.mark = search rules in
    let cells : List (List ℕ) = signed_decimal c.in-Istream.mark ∷ map (cell_text c.args.schema.now) c.in-Istream.columns in
    rw c.in-Istream.is (on_ok c.add_stream.result (c.add_stream.new.out.items ≡ c.args.out.now.items ++ (codes "istream" ++ cells_text cells)) (c.add_stream.new.out.items ≡ c.args.out.now.items ++ joined (codes "istream" ∷ cells))
    (joined-word c.args.out.now.items c.add_stream.new.out.items (codes "istream") cells) (simp to_z-of_z at c.add_stream.ensures))

pub returns-in-Dstream : goal.returns-in-Dstream
returns-in-Dstream c =
    let fits : SFits w64 c.in-Dstream.mark = search rules in
    let cells : List (List ℕ) = signed_decimal c.in-Dstream.mark ∷ map (cell_text c.args.schema.now) c.in-Dstream.columns in
    rw c.in-Dstream.is (on_ok c.add_stream-in-Dstream.result (c.add_stream-in-Dstream.new.out.items ≡ c.args.out.now.items ++ (codes "dstream" ++ cells_text cells)) (c.add_stream-in-Dstream.new.out.items ≡ c.args.out.now.items ++ joined (codes "dstream" ∷ cells))
    (joined-word c.args.out.now.items c.add_stream-in-Dstream.new.out.items (codes "dstream") cells) (simp to_z-of_z at c.add_stream-in-Dstream.ensures))

pub returns-in-Rstream : goal.returns-in-Rstream
returns-in-Rstream c =
    let fits : SFits w64 c.in-Rstream.mark = search rules in
    let cells : List (List ℕ) = signed_decimal c.in-Rstream.mark ∷ map (cell_text c.args.schema.now) c.in-Rstream.columns in
    rw c.in-Rstream.is (on_ok c.add_stream-in-Rstream.result (c.add_stream-in-Rstream.new.out.items ≡ c.args.out.now.items ++ (codes "rstream" ++ cells_text cells)) (c.add_stream-in-Rstream.new.out.items ≡ c.args.out.now.items ++ joined (codes "rstream" ∷ cells))
    (joined-word c.args.out.now.items c.add_stream-in-Rstream.new.out.items (codes "rstream") cells) (simp to_z-of_z at c.add_stream-in-Rstream.ensures))

pub returns-in_ok-add_withdrawn-in-Retract : goal.returns-in_ok-add_withdrawn-in-Retract
returns-in_ok-add_withdrawn-in-Retract c =
    let front : List (List ℕ) = c.args.name.now ∷ [] in
    let window : List (List ℕ) = signed_decimal c.in-Retract.window.start ∷ signed_decimal c.in-Retract.window.end ∷ [] in
    let back = window ++ map (cell_text c.args.schema.now) c.in-Retract.columns in
    rw c.in-Retract.is (on_ok c.add_window-in-Retract.result
    (c.add_window-in-Retract.new.out.items ≡ c.add_withdrawn.new.out.items ++ cells_text (window ++ map (cell_text c.args.schema.now) c.as_slice-in-Retract.result.now))
    (c.add_window-in-Retract.new.out.items ≡ c.args.out.now.items ++ joined (codes "retract" ∷ (front ++ back)))
    (λ e. joined-split c.args.out.now.items c.add_window-in-Retract.new.out.items (codes "retract") front back (rw (c.as_slice-in-Retract.ensures, (c.in_ok-add_withdrawn-in-Retract).ensures) at e))
    c.add_window-in-Retract.ensures)
