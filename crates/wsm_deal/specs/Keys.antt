-- The keys of a text, and how they are dealt to parts.
use Rattle.std.specs.Prelude.{ℕ, ◌+◌, ◌==◌, nat_lt, List, [], ◌∷◌, ◌++◌, length, Option, Some, None, Result, Ok, Err, if◌then◌else◌}
use Rattle.std.specs.Int.{div_ceil}
use Rattle.wsm_record.specs.Name.{is_among, is_name}
use Rattle.wsm_record.specs.declared.limits.TheConstants.{MAX_NAMES}
use Rattle.wsm_deal.specs.Deal.{Sharing}
use Rattle.wsm_deal.specs.declared.shares.SharesRefusal.{SharesRefusal}
use Rattle.wsm_deal.specs.declared.shares.SharesRefusal.TheVariants.{BadName, BadNumber, DuplicateName, NoNames, TooFewParts, TooManyParts}

-- lines with a byte more in front of the first
abbrev pub before_lines : ℕ → List (List ℕ) → List (List ℕ)
before_lines b [] = (b ∷ []) ∷ []
before_lines b (line ∷ lines) = (b ∷ line) ∷ lines

-- the lines of a text: each ends at a line feed, and the last may have none
unfoldable pub lines_of : List ℕ → List (List ℕ)
lines_of [] = []
lines_of (b ∷ bs) = if b == 10 then [] ∷ lines_of bs else before_lines b (lines_of bs)

-- the keys of lines, behind those of the lines before: each line is a name, and none stands before
unfoldable pub keys_behind : List (List ℕ) → List (List ℕ) → Result (List (List ℕ)) SharesRefusal
keys_behind before [] = Ok before
keys_behind before (line ∷ lines) =
    if is_name line then (if is_among line before then Err (DuplicateName (length before + 1)) else keys_behind (before ++ line ∷ []) lines) else Err (BadName (length before + 1))

-- the keys of a text, a line each
abbrev pub keys_of_text : List ℕ → Result (List (List ℕ)) SharesRefusal
keys_of_text text = keys_behind [] (lines_of text)

-- how many keys a part has, of so many keys and parts: none more than a query, and each part some
abbrev pub keys_a_part : ℕ → ℕ → Result ℕ SharesRefusal
keys_a_part keys parts =
    let least = div_ceil keys MAX_NAMES in
    let block = div_ceil keys parts in
    let filled = div_ceil keys block in
    if keys == 0 then Err NoNames else (if nat_lt parts least then Err (TooFewParts least) else (if nat_lt filled parts then Err (TooManyParts filled) else Ok block))

abbrev pub in_blocks : List (List ℕ) → Result ℕ SharesRefusal → Result Sharing SharesRefusal
in_blocks keys (Ok block) = Ok (record { names = keys; block = block })
in_blocks keys (Err refusal) = Err refusal

abbrev pub dealt_keys : Result (List (List ℕ)) SharesRefusal → ℕ → Result Sharing SharesRefusal
dealt_keys (Ok keys) parts = in_blocks keys (keys_a_part (length keys) parts)
dealt_keys (Err refusal) parts = Err refusal

-- the keys of a text, in blocks for so many parts
abbrev pub sharing_of : List ℕ → ℕ → Result Sharing SharesRefusal
sharing_of text parts = dealt_keys (keys_of_text text) parts

-- why keys are dealt to no parts where their number isn't known: by a fault of their own, or for want of it
abbrev pub refusal_of : Result (List (List ℕ)) SharesRefusal → SharesRefusal
refusal_of (Ok []) = NoNames
refusal_of (Ok (key ∷ keys)) = BadNumber
refusal_of (Err refusal) = refusal

-- the same for so many parts as are known
abbrev pub sharing_for : List ℕ → Option ℕ → Result Sharing SharesRefusal
sharing_for text (Some parts) = sharing_of text parts
sharing_for text None = Err (refusal_of (keys_of_text text))
