-- Metrics as text, computed.
use Rattle.std.specs.Prelude.{◌≡◌, [], ◌∷◌, ◌++◌, codes, refl}
use Rattle.std.specs.Fmt.{digits}
use Rattle.wsm_metrics.specs.declared.metric.Kind.TheVariants.{Counter, Gauge}
use Rattle.wsm_metrics.specs.Text.{One, By, metrics_text, name_text}

two : metrics_text (
    record { name = codes "wsm_lines_total"; help = codes "Lines of the log."; kind = Counter; values = One 7 }
    ∷ record { name = codes "wsm_refused"; help = codes "Refused\nby \\."; kind = Gauge; values = By (codes "word") (record { word = codes "BadTag"; value = 3 } ∷ record { word = codes "a\"\\\n"; value = 0 } ∷ []) }
    ∷ [])
    ≡ codes "# HELP wsm_lines_total Lines of the log.\n# TYPE wsm_lines_total counter\nwsm_lines_total 7\n"
    ++ codes "# HELP wsm_refused Refused\\nby \\\\.\n# TYPE wsm_refused gauge\nwsm_refused{word=\"BadTag\"} 3\nwsm_refused{word=\"a\\\"\\\\\\n\"} 0\n"
unfolding digits
two = refl

-- without a word there is no line
none : metrics_text (record { name = codes "n"; help = []; kind = Gauge; values = By (codes "word") [] } ∷ []) ≡ codes "# HELP n \n# TYPE n gauge\n"
unfolding digits
none = refl

-- a name is of letters, digits and _, and begins with no digit
a_name : name_text (codes "wsm_2") ≡ codes "wsm_2"
a_name = refl

no_name : name_text (codes "99 in-100") ≡ codes "_99_in_100"
no_name = refl

no_byte : name_text [] ≡ codes "_"
no_byte = refl
