-- Names that lines teach are names that rows teach, a row for each line that teaches one: so a text keeps its number, or has none.
use Rattle.std.proofs.Common.{◌≡◌, ◌∙◌, ℕ, true, false, cond, List, [], ◌∷◌, ◌++◌, map, position, bytes_eq, Option, Some, None, Result, Ok, Err, refl, sym, ap}
use Rattle.std.specs.Prelude.{codes, is_ok}
use Rattle.std.proofs.lemmas.List.{map-append}
use Rattle.wsm_record.specs.declared.event.RowFault.{RowFault}
use Rattle.wsm_record.specs.Event.{Event, Record, Watermark}
use Rattle.wsm_record.specs.Schema.{Declared}
use Rattle.wsm_key_names.specs.Names.{learned}
use Rattle.wsm_key_names.specs.Reading.{by_names, learned_of, names_after, names_after_rows}
use Rattle.wsm_key_names.proofs.LearnedNames.{stays_read}
use Rattle.wsm_lines.specs.declared.fault.LineFault.{LineFault}
use Rattle.wsm_lines.specs.declared.source.KeyNames.{KeyNames}
use Rattle.wsm_lines.specs.declared.source.KeyNames.TheVariants as names
use Rattle.wsm_lines.specs.declared.source.Source.{Source}
use Rattle.wsm_lines.specs.Event.{key_number}
use Rattle.wsm_lines.specs.Key.{if_told, key_by, key_text_of, no_names}
use Rattle.wsm_lines.specs.Said.{said_of, taken_of}
use Rattle.wsm_named_lines.specs.Names.{KeepsSaid, ReadsByAll, StaysRead, names_after_line, names_after_lines, said_by}
use Rattle.wsm_named_lines.proofs.ByNames.{event_teaches, fault_stays, keyed, number_by, said_named}

-- a row whose key has this text
abbrev row_of : List ℕ → List (List ℕ)
row_of text = codes "r" ∷ text ∷ codes "0" ∷ []

abbrev taught : ℕ → List (List ℕ) → List (List ℕ) → List (List ℕ)
taught most names texts = names_after_rows most no_names names (map row_of texts)

abbrev key_said : Result Event RowFault → Option ℕ
key_said (Ok (Record key time values)) = key
key_said (Ok (Watermark source time)) = None
key_said (Err why) = None

keeps_number : (most : ℕ) (names : List (List ℕ)) (text : List ℕ) (texts : List (List ℕ))
    → position (bytes_eq text) (taught most (learned most names text) texts) ≡ position (bytes_eq text) (learned most names text)
keeps_number most names text texts = ap key_said (stays_read most no_names names (row_of text) (map row_of texts))

more_rows : (most : ℕ) (names : List (List ℕ)) (rows more : List (List (List ℕ)))
    → names_after_rows most no_names names (rows ++ more) ≡ names_after_rows most no_names (names_after_rows most no_names names rows) more
more_rows most names [] more = refl
more_rows most names (cells ∷ rows) more = more_rows most (names_after most no_names names cells) rows more

one_more : (most : ℕ) (names texts : List (List ℕ)) (text : List ℕ) → taught most names (texts ++ text ∷ []) ≡ learned most (taught most names texts) text
one_more most names texts text =
    ap (names_after_rows most no_names names) (map-append row_of texts (text ∷ []))
    ∙ more_rows most names (map row_of texts) (row_of text ∷ [])

-- these names are those behind some texts
abbrev Comes : ℕ → List (List ℕ) → List (List ℕ) → Type 0
Comes most names all = (texts : List (List ℕ)) × (all ≡ taught most names texts)

of_text : (most : ℕ) (names all : List (List ℕ)) (text : Option (List ℕ)) → Comes most names all → Comes most names (learned_of most all text)
of_text most names all None comes = comes
of_text most names all (Some text) comes =
    (comes.0 ++ text ∷ [], ap (λ (ns : List (List ℕ)). learned most ns text) comes.1 ∙ sym (one_more most names comes.0 text))

of_line : (most : ℕ) (s : Source) (names all before : List (List ℕ)) (line : List ℕ) → Comes most names all → Comes most names (names_after_line most s all before line)
of_line most s names all before line comes =
    elim (is_ok (said_of s no_names before line)) as (λ b. Comes most names (cond b (learned_of most all (key_text_of s before line)) all)) [
      | true ↦ of_text most names all (key_text_of s before line) comes
      | false ↦ comes
    ]

of_lines : (most : ℕ) (s : Source) (names later before : List (List ℕ)) → Comes most (names_after_lines most s names before) (names_after_lines most s names (later ++ before))
of_lines most s names [] before = ([], refl)
of_lines most s names (line ∷ later) before =
    of_line most s (names_after_lines most s names before) (names_after_lines most s names (later ++ before)) (later ++ before) line (of_lines most s names later before)

-- ---- so a line says what it says

-- a text that lines taught has its number
line_keeps : (most : ℕ) (s : Source) (names later : List (List ℕ)) (line : List ℕ) (before : List (List ℕ)) (text : List ℕ) (e : Event)
    → said_of s no_names before line ≡ Ok e → key_text_of s before line ≡ Some text
    → position (bytes_eq text) (names_after_lines most s names (later ++ line ∷ before)) ≡ position (bytes_eq text) (names_after_lines most s names (line ∷ before))
line_keeps most s names later line before text e says key =
    let comes = of_lines most s names later (line ∷ before) in
    let first : names_after_lines most s names (line ∷ before) ≡ learned most (names_after_lines most s names before) text =
    event_teaches most s (names_after_lines most s names before) before line text e says key in
    ap (position (bytes_eq text)) (comes.1 ∙ ap (λ (ns : List (List ℕ)). taught most ns comes.0) first)
    ∙ keeps_number most (names_after_lines most s names before) text comes.0
    ∙ ap (position (bytes_eq text)) (sym first)

by_same : (n : KeyNames) (d : Declared) (all some : List (List ℕ)) (text : List ℕ) → position (bytes_eq text) all ≡ position (bytes_eq text) some
    → key_number n (by_names all d) text ≡ key_number n (by_names some d) text
by_same names.Same d all some text e = e
by_same (names.Table entries other) d all some text e = refl
by_same (names.Prefixes entries other) d all some text e = refl

by_told : (n : KeyNames) (d : Declared) (all some : List (List ℕ)) (key : Result (List ℕ) LineFault)
    → ((text : List ℕ) → if_told key ≡ Some text → position (bytes_eq text) all ≡ position (bytes_eq text) some)
    → number_by n (by_names all d) key ≡ number_by n (by_names some d) key
by_told n d all some (Err why) h = refl
by_told n d all some (Ok text) h = by_same n d all some text (h text refl)

said_alike : (s : Source) (d : Declared) (all some before : List (List ℕ)) (line : List ℕ) (said : Result Event LineFault) → said_of s no_names before line ≡ said
    → ((e : Event) (text : List ℕ) → said_of s no_names before line ≡ Ok e → key_text_of s before line ≡ Some text → position (bytes_eq text) all ≡ position (bytes_eq text) some)
    → said_of s (by_names all d) before line ≡ said_of s (by_names some d) before line
said_alike s d all some before line (Err why) is h =
    fault_stays s (by_names all d) no_names before line why is ∙ sym (fault_stays s (by_names some d) no_names before line why is)
said_alike s d all some before line (Ok e) is h =
    said_named s (by_names all d) no_names before line
    ∙ ap (λ k. keyed k (said_of s no_names before line)) (by_told s.key.names d all some (key_by s (taken_of s before line)) (λ text key. h e text is key))
    ∙ sym (said_named s (by_names some d) no_names before line)

pub stays_said : StaysRead
stays_said most s d names later line before =
    said_alike s d (names_after_lines most s names (later ++ line ∷ before)) (names_after_lines most s names (line ∷ before)) before line (said_of s no_names before line) refl
    (λ e text says key. line_keeps most s names later line before text e says key)

behind : (later : List (List ℕ)) (line : List ℕ) (before : List (List ℕ)) → (later ++ line ∷ []) ++ before ≡ later ++ line ∷ before
behind [] line before = refl
behind (l ∷ later) line before = ap (λ (ls : List (List ℕ)). l ∷ ls) (behind later line before)

pub keeps_said : KeepsSaid
keeps_said most s d names later [] = refl
keeps_said most s d names later (line ∷ before) =
    let all = names_after_lines most s names (later ++ line ∷ before) in
    let some = names_after_lines most s names (line ∷ before) in
    let whole : said_by s (by_names all d) before ≡ said_by s (by_names (names_after_lines most s names before) d) before =
    ap (λ (ls : List (List ℕ)). said_by s (by_names (names_after_lines most s names ls) d) before) (sym (behind later line before))
    ∙ keeps_said most s d names (later ++ line ∷ []) before in
    let part : said_by s (by_names some d) before ≡ said_by s (by_names (names_after_lines most s names before) d) before = keeps_said most s d names (line ∷ []) before in
    ap (λ r. r ∷ said_by s (by_names all d) before) (stays_said most s d names later line before)
    ∙ ap (λ rs. said_of s (by_names some d) before line ∷ rs) (whole ∙ sym part)

pub reads_all : ReadsByAll
reads_all most s d names [] = refl
reads_all most s d names (line ∷ before) =
    let all = names_after_lines most s names (line ∷ before) in
    ap (λ rs. said_of s (by_names all d) before line ∷ rs) (reads_all most s d names before ∙ sym (keeps_said most s d names (line ∷ []) before))
