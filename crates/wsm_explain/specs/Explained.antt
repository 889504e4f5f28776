-- What is told of an input, as JSON.
use Rattle.std.specs.Prelude.{◌≡◌, ℕ, List, [], ◌++◌, map, take, option_map, Option, Some, None, Result, Ok, Err, codes}
use Rattle.serde_json.specs.Data.{Data, null, string, object, member, no_members}
use Rattle.serde_json.specs.Written.{compact_text}
use Rattle.wsm_tokens.specs.declared.fault.ParseRefusal.{ParseRefusal}
use Rattle.wsm_tokens.specs.declared.position.Position.{Position}
use Rattle.wsm_query.specs.Parse.{parse}
use Rattle.wsm_query.specs.Tree.{Query}
use Rattle.wsm_check.specs.declared.refusal.CheckFault.{CheckFault}
use Rattle.wsm_check.specs.declared.refusal.CheckFault.TheVariants.{Exceeds}
use Rattle.wsm_check.specs.declared.refusal.CodeLimit.{CodeLimit}
use Rattle.wsm_check.specs.declared.refusal.CodeLimit.TheVariants as limits
use Rattle.wsm_check.specs.Text.{part_text}
use Rattle.wsm_program.specs.Program.{Program}
use Rattle.wsm_rules.specs.Costs.{needed}
use Rattle.wsm_rules.specs.Rules.{judge}
use Rattle.wsm_rules.specs.Text as rules
use Rattle.wsm_rules.specs.declared.rejection.Rejection.{Rejection}
use Rattle.wsm_inputs.specs.declared.input.Input.{Input}
use Rattle.wsm_inputs.specs.declared.input.Input.TheVariants as input
use Rattle.wsm_inputs.specs.declared.end.InputRefusal.{InputRefusal}
use Rattle.wsm_inputs.specs.declared.end.InputRefusal.TheVariants as refusals
use Rattle.wsm_inputs.specs.Ends.{refusal_text, rejection_text}
use Rattle.wsm_inputs.specs.Inputs.{judged}
use Rattle.wsm_explain.specs.declared.explaining.Judgement.{Judgement}
use Rattle.wsm_explain.specs.declared.explaining.Judgement.TheVariants.{Refused, Rejected, Accepted}
use Rattle.wsm_explain.specs.declared.ways.Way.{Way}
use Rattle.wsm_explain.specs.Json.{natural, or_null, list_data}
use Rattle.wsm_explain.specs.Limits.{limits_data}
use Rattle.wsm_explain.specs.Parts.{parts_data, place_of}
use Rattle.wsm_explain.specs.Program.{accepted_data, ranges_data, rejected_data}
use Rattle.wsm_explain.specs.Standing.{length_at, reserved_data, standing_data, tokens_from}
use Rattle.wsm_explain.specs.Sums.{text_sum}
use Rattle.wsm_explain.specs.Ways.{way_data, way_of}

-- ---- what is found

-- how each column of a query adds up
abbrev pub ways_parsed : Result Query ParseRefusal → Option (List Way)
ways_parsed (Ok q) = Some (map way_of q.columns)
ways_parsed (Err why) = None

abbrev pub ways_in : Input → Option (List Way)
ways_in (input.Text text) = ways_parsed (parse text.now)
ways_in (input.Program bytes) = None

-- the input is refused or rejected for this, or accepted
abbrev pub IsJudged : Input → Judgement → Type 0
IsJudged i (Refused why) = judged i ≡ Err why
IsJudged i (Rejected p why ways) = (judged i ≡ Ok p) × (judge p ≡ Err why) × (option_map (λ v. v.items) ways ≡ ways_in i)
IsJudged i (Accepted p ways) = (judged i ≡ Ok p) × (judge p ≡ Ok (needed p)) × (option_map (λ v. v.items) ways ≡ ways_in i)

-- ---- what is told of it

abbrev pub limit_word : CodeLimit → List ℕ
limit_word limits.Accumulators = codes "aggregates"
limit_word limits.Where = codes "instructions of where"
limit_word limits.Update = codes "instructions of update"
limit_word limits.Fire = codes "instructions of fire"
limit_word limits.Stack = codes "values on the stack"
limit_word limits.Panes = codes "panes held"

-- what was counted, and how much is allowed
abbrev pub limit_data : CheckFault → Data
limit_data (Exceeds limit counted allowed) =
    object
    (member (codes "allowed") (natural allowed)
    (member (codes "counted") (natural counted)
    (member (codes "of") (string (limit_word limit)) no_members)))
limit_data fault = null

-- as it is told, and the place, or the part
abbrev pub spot_data : Position → ℕ → Data → List ℕ → Data
spot_data p length standing told =
    object
    (member (codes "column") (natural p.column)
    (member (codes "length") (natural length)
    (member (codes "line") (natural p.line)
    (member (codes "may_stand") standing
    (member (codes "told") (string told) no_members)))))

abbrev pub text_fault_data : List ℕ → Position → List ℕ → Data
text_fault_data text p told =
    let found = tokens_from text p in
    spot_data p (length_at text found) (standing_data (take (place_of found) text) p) told

abbrev pub refusal_data : List ℕ → InputRefusal → Data
refusal_data text (refusals.Text fault position) = text_fault_data text position (refusal_text (refusals.Text fault position))
refusal_data text (refusals.Check fault part) =
    object
    (member (codes "limit") (limit_data fault)
    (member (codes "part") (string (part_text part))
    (member (codes "told") (string (refusal_text (refusals.Check fault part))) no_members)))
refusal_data text (refusals.Bytes fault) = object (member (codes "told") (string (refusal_text (refusals.Bytes fault))) no_members)
refusal_data text (refusals.Keys fault) = object (member (codes "told") (string (refusal_text (refusals.Keys fault))) no_members)

abbrev pub rejection_data : Rejection → Data
rejection_data r =
    object
    (member (codes "part") (string (rules.part_text r.part))
    (member (codes "place") (natural r.place)
    (member (codes "told") (string (rejection_text r)) no_members)))

-- of a query; a program has none
abbrev pub text_of : Input → List ℕ
text_of (input.Text text) = text.now
text_of (input.Program bytes) = []

abbrev pub fault_data : Input → Judgement → Data
fault_data i (Refused why) = refusal_data (text_of i) why
fault_data i (Rejected p why ways) = rejection_data why
fault_data i (Accepted p ways) = null

abbrev pub judged_data : Judgement → Data
judged_data (Refused why) = null
judged_data (Rejected p why ways) = rejected_data p
judged_data (Accepted p ways) = accepted_data p

abbrev pub joins_of : Option (List Way) → Data
joins_of ways = or_null (list_data way_data) ways

abbrev pub joins_data : Judgement → Data
joins_data (Refused why) = null
joins_data (Rejected p why ways) = joins_of (option_map (λ v. v.items) ways)
joins_data (Accepted p ways) = joins_of (option_map (λ v. v.items) ways)

abbrev pub accepted_ranges : Judgement → Data
accepted_ranges (Refused why) = null
accepted_ranges (Rejected p why ways) = null
accepted_ranges (Accepted p ways) = ranges_data p

abbrev pub verdict_word : Judgement → List ℕ
verdict_word (Refused why) = codes "refused"
verdict_word (Rejected p why ways) = codes "rejected"
verdict_word (Accepted p ways) = codes "accepted"

abbrev pub text_parts : Input → Data
text_parts (input.Text text) = parts_data text.now
text_parts (input.Program bytes) = null

abbrev pub text_sum_data : Input → Data
text_sum_data (input.Text text) = natural (text_sum text.now)
text_sum_data (input.Program bytes) = null

-- the version of this form
abbrev pub version : ℕ
version = 4

abbrev pub explained_data : Input → Judgement → Data
explained_data i j =
    object
    (member (codes "fault") (fault_data i j)
    (member (codes "joins") (joins_data j)
    (member (codes "limits") limits_data
    (member (codes "parts") (text_parts i)
    (member (codes "program") (judged_data j)
    (member (codes "ranges") (accepted_ranges j)
    (member (codes "sum") (text_sum_data i)
    (member (codes "verdict") (string (verdict_word j))
    (member (codes "version") (natural version)
    (member (codes "words") reserved_data no_members))))))))))

-- one line
abbrev pub explained_text : Input → Judgement → List ℕ
explained_text i j = compact_text (explained_data i j) ++ codes "\n"
