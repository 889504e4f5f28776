-- Counts as text: version 0.0.4 of the text format of Prometheus. A metric is told with what it means and its kind, and then its values,
-- each on a line: one, or one for each word of a label. Names are brought to the form that the format has.
use Rattle.std.specs.Prelude.{ℕ, Bool, false, ◌&&◌, ◌||◌, ◌==◌, not, List, [], ◌∷◌, ◌++◌, map, nat_le, codes, if◌then◌else◌}
use Rattle.std.specs.Fmt.{decimal}
use Rattle.std.specs.List.{flat_map}
use Rattle.wsm_metrics.specs.declared.metric.Kind.{Kind}
use Rattle.wsm_metrics.specs.declared.metric.Kind.TheVariants.{Counter, Gauge}

-- ---- what is told

-- what is counted of a word
pub record Labelled : Type 0 where
  pub word : List ℕ
  pub value : ℕ

-- one value, or one for each word of the label of a name
pub data Values : Type 0 where
  One : ℕ → Values
  By : List ℕ → List Labelled → Values

pub record Metric : Type 0 where
  pub name : List ℕ
  pub help : List ℕ
  pub kind : Kind
  pub values : Values

-- ---- names

abbrev pub is_between : ℕ → ℕ → ℕ → Bool
is_between lo hi byte = nat_le lo byte && nat_le byte hi

abbrev pub is_digit : ℕ → Bool
is_digit byte = is_between 48 57 byte

abbrev pub is_letter : ℕ → Bool
is_letter byte = is_between 65 90 byte || is_between 97 122 byte

-- letters, digits and _ stand in a name; each other byte becomes _
abbrev pub name_byte : ℕ → ℕ
name_byte byte = if is_letter byte || is_digit byte then byte else 95

-- a name has a byte, and its first is no digit
abbrev pub begins_well : List ℕ → Bool
begins_well [] = false
begins_well (byte ∷ bytes) = not (is_digit byte)

abbrev pub name_text : List ℕ → List ℕ
name_text name = if begins_well name then map name_byte name else 95 ∷ map name_byte name

-- ---- texts

-- a backslash and a line feed are escaped
abbrev pub help_byte : ℕ → List ℕ
help_byte byte = if byte == 92 then 92 ∷ 92 ∷ [] else if byte == 10 then 92 ∷ 110 ∷ [] else byte ∷ []

-- in quotes a quote too
abbrev pub label_byte : ℕ → List ℕ
label_byte byte = if byte == 34 then 92 ∷ 34 ∷ [] else help_byte byte

-- ---- lines

abbrev pub kind_text : Kind → List ℕ
kind_text Counter = codes " counter\n"
kind_text Gauge = codes " gauge\n"

abbrev pub head_text : List ℕ → List ℕ → Kind → List ℕ
head_text name help kind = codes "# HELP " ++ name_text name ++ 32 ∷ flat_map help_byte help ++ codes "\n# TYPE " ++ name_text name ++ kind_text kind

-- a value ends its line
abbrev pub value_text : ℕ → List ℕ
value_text value = 32 ∷ decimal value ++ 10 ∷ []

abbrev pub labelled_text : List ℕ → List ℕ → Labelled → List ℕ
labelled_text name label l = name_text name ++ 123 ∷ name_text label ++ codes "=\"" ++ flat_map label_byte l.word ++ codes "\"}" ++ value_text l.value

abbrev pub labelled_texts : List ℕ → List ℕ → List Labelled → List ℕ
labelled_texts name label [] = []
labelled_texts name label (l ∷ ls) = labelled_text name label l ++ labelled_texts name label ls

abbrev pub values_text : List ℕ → Values → List ℕ
values_text name (One value) = name_text name ++ value_text value
values_text name (By label values) = labelled_texts name label values

abbrev pub metric_text : Metric → List ℕ
metric_text m = head_text m.name m.help m.kind ++ values_text m.name m.values

-- the text of metrics, one behind the other
abbrev pub metrics_text : List Metric → List ℕ
metrics_text [] = []
metrics_text (m ∷ ms) = metric_text m ++ metrics_text ms
