use Rattle.std.proofs.Common.{◌≡◌, ◌∙◌, ◌++◌, ◌∷◌, [], ℕ, List, ap, refl, append_assoc, append-nil}
use Rattle.std.specs.Fmt.{decimal}
use Rattle.wsm_csv.specs.Lines.{cells_text}
use Rattle.wsm_kept.specs.Head.{head_tag, head_text}
use Rattle.wsm_kept.proofs.head.Head.add_text.Goals as goal

joined : (s a b c d e f n : List ℕ) → ((((((s ++ a) ++ b) ++ c) ++ d) ++ e) ++ f) ++ n ≡ s ++ ((a ++ (b ++ (c ++ (d ++ (e ++ (f ++ [])))))) ++ n)
joined s a b c d e f n = simp (append_assoc, append-nil) refl

-- cells one after the other, and a line feed
six : (start tag a b c d e f : List ℕ) → (((((((start ++ tag) ++ 44 ∷ a) ++ 44 ∷ b) ++ 44 ∷ c) ++ 44 ∷ d) ++ 44 ∷ e) ++ 44 ∷ f) ++ 10 ∷ [] ≡ start ++ (tag ++ (cells_text (a ∷ b ∷ c ∷ d ∷ e ∷ f ∷ []) ++ 10 ∷ []))
six start tag a b c d e f =
    joined (start ++ tag) (44 ∷ a) (44 ∷ b) (44 ∷ c) (44 ∷ d) (44 ∷ e) (44 ∷ f) (10 ∷ [])
    ∙ append_assoc start tag (cells_text (a ∷ b ∷ c ∷ d ∷ e ∷ f ∷ []) ++ 10 ∷ [])

cell : (old mid new a : List ℕ) → old ≡ mid → new ≡ old ++ 44 ∷ a → new ≡ mid ++ 44 ∷ a
cell old mid new a h k = k ∙ ap (λ (t : List ℕ). t ++ 44 ∷ a) h

pub returns : goal.returns
unfolding head_text
returns c =
    let h = c.args.self.now in
    let start = c.args.out.now.items in
    c.in_ok-push.ensures.items
    ∙ ap (λ (t : List ℕ). t ++ 10 ∷ [])
    (cell _ _ _ (decimal h.sum)
    (cell _ _ _ (decimal h.records)
    (cell _ _ _ (decimal h.own)
    (cell _ _ _ (decimal h.kept)
    (cell _ _ _ (decimal h.lines)
    (cell _ (start ++ head_tag) _ (decimal h.rows) c.in_ok-extend_from_slice.ensures.items c.in_ok-add_count.ensures) c.in_ok-add_count-2.ensures) c.in_ok-add_count-3.ensures) c.in_ok-add_count-4.ensures) c.in_ok-add_count-5.ensures) c.in_ok-add_count-6.ensures)
    ∙ six start head_tag (decimal h.rows) (decimal h.lines) (decimal h.kept) (decimal h.own) (decimal h.records) (decimal h.sum)
