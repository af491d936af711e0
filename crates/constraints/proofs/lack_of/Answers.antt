-- `constraints::lack_of` meets its contract. Assumes nothing.
use mathlib.Core.Bool.{not}
use mathlib.Core.Path.{ap}
use Rattle.abilities.proofs.Sets.{kept_ready}
use Rattle.constraints.proofs.Lacks.{is_false, is_true, lack_not, node_goes, node_lacks, to_anything}
use Rattle.constraints.proofs.lack_of.Goals as goal

pub is_missing-requires : goal.is_missing-requires
is_missing-requires g c = let pre = c.requires in
    (pre.0, (pre.1.0.some_bit, pre.1.1))

pub returns-then-not-is_missing : goal.returns-then-not-is_missing
returns-then-not-is_missing g c = record { is = λ ds k. lack_not _ _ _ _ _ _ (c.is_missing.ensures ds k) (is_false _ (ap not c.if-not-is_missing.true)); inside = tt }

pub shape_rule-rule-requires : goal.shape_rule-rule-requires
shape_rule-rule-requires g c = let pre = c.requires in
    let kept = pre.1.1 in
    let unfolds = c.unfold_type.ensures in
    let goes = node_goes _ c.unfold_type.result _ unfolds _ c.in-Node.is c.node_at-shape.result c.node_at-shape.ensures in
    (kept_ready _ _ _ _ _ goes kept.0 (kept.0.below _ kept.1), pre.1.0.some_bit)

pub by_rule-requires : goal.by_rule-requires
by_rule-requires g c = c.shape_rule-rule.ensures.0

pub returns-in-Node : goal.returns-in-Node
returns-in-Node g c = let pre = c.requires in
    let to = c.in-Node.is in
    let unfolds = c.unfold_type.ensures in
    let goes = node_goes _ c.unfold_type.result _ unfolds _ to c.node_at-shape.result c.node_at-shape.ensures in
    let missing = c.is_missing.ensures in
    let is_missing = is_true _ (ap not c.if-not-is_missing.false) in
    node_lacks _ c.unfold_type.result _ unfolds _ to _ _ _ _ _ missing is_missing _ goes c.shape_rule-rule.result c.shape_rule-rule.ensures.1 c.by_rule.result c.by_rule.ensures

pub returns-in-Anything : goal.returns-in-Anything
returns-in-Anything g c = let unfolds = c.unfold_type.ensures in
    to_anything _ c.unfold_type.result _ unfolds _ c.in-Anything.is _ _ _ _ c.requires.1.0
