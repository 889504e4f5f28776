-- What metrics of the code stand for.
use Rattle.std.specs.Prelude.{map}
use Rattle.wsm_metrics.specs.Text.{Labelled, Metric, Values, One, By}
use Rattle.wsm_metrics.specs.declared.metric.Labelled.{Labelled as HeldLabelled}
use Rattle.wsm_metrics.specs.declared.metric.Metric.{Metric as HeldMetric}
use Rattle.wsm_metrics.specs.declared.metric.Values.{Values as HeldValues}
use Rattle.wsm_metrics.specs.declared.metric.Values.TheVariants as held

abbrev pub labelled_seen : HeldLabelled → Labelled
labelled_seen l = record { word = l.word.now; value = l.value }

abbrev pub values_seen : HeldValues → Values
values_seen (held.One value) = One value
values_seen (held.By label values) = By label.now (map labelled_seen values.now)

abbrev pub metric_seen : HeldMetric → Metric
metric_seen m = record { name = m.name.now; help = m.help.now; kind = m.kind; values = values_seen m.values }
