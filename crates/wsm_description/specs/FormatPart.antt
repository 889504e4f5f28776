-- The format of lines, and how long they may be.
use Rattle.std.specs.Prelude.{ℕ, List, codes, if◌then◌else◌, unwrap_or, Result, Ok}
use Rattle.std.specs.Str.{bytes_eq}
use Rattle.toml.specs.Data.{Members}
use Rattle.wsm_description.specs.declared.description.Format.{Format}
use Rattle.wsm_description.specs.declared.description.Format.TheVariants.{Json, Access, Csv, Rows}
use Rattle.wsm_description.specs.declared.reading.Mark.TheVariants.{Separator}
use Rattle.wsm_description.specs.declared.refusal.SourceFault.TheVariants.{BadWord}
use Rattle.wsm_description.specs.declared.refusal.Refusal.{Refusal}
use Rattle.wsm_description.specs.Refusals.{refused, on_ok}
use Rattle.wsm_description.specs.Reading.{required_text, number_at, mark_at, absent}

-- a format without cells, or whose cells are known, has no separator
abbrev pub plain_format : Members → Format → Result Format Refusal
plain_format ms format = on_ok (absent (codes "") (codes "separator") ms) (λ _. Ok format)

-- a comma separates, where nothing else is said
abbrev pub csv_format : Members → Result Format Refusal
csv_format ms = on_ok (mark_at (codes "") (codes "separator") Separator ms) (λ byte. Ok (Csv (unwrap_or byte 44)))

abbrev pub format_named : Members → List ℕ → Result Format Refusal
format_named ms word =
    if bytes_eq word (codes "json") then plain_format ms Json
    else (if bytes_eq word (codes "access") then plain_format ms Access
    else (if bytes_eq word (codes "rows") then plain_format ms Rows
    else (if bytes_eq word (codes "csv") then csv_format ms else refused BadWord (codes "") (codes "format"))))

abbrev pub format_of : Members → Result Format Refusal
format_of ms = on_ok (required_text (codes "") (codes "format") ms) (format_named ms)

-- 1 to 16777216 bytes, and 1048576 where nothing is said
abbrev pub longest_of : Members → Result ℕ Refusal
longest_of ms = on_ok (number_at (codes "") (codes "longest") 1 16777216 ms) (λ n. Ok (unwrap_or n 1048576))
