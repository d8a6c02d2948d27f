-- What is read fits wherever what was declared is declared.
use Rattle.ppddl_forms.specs.names.Declarations.{world_of}
use Rattle.ppddl_forms.specs.names.Sight.{in_sight}
use Rattle.ppddl_form_grammar.proofs.lemmas.forms.Conditions as condition
use Rattle.ppddl_form_grammar.proofs.lemmas.forms.Effects as effect
use Rattle.ppddl_form_grammar.specs.fits.Growth.{domain_of}
use Rattle.ppddl_form_grammar.specs.fits.Laws.{ConditionFits, EffectFits, EffectDraws}
use Rattle.ppddl_form_grammar.proofs.lemmas.fits.Growth.{later_from}
use Rattle.ppddl_form_grammar.proofs.lemmas.fits.Trees.{condition-grows, effect-grows}
use Rattle.ppddl_form_grammar.proofs.lemmas.fits.Conditions.{condition_fit}
use Rattle.ppddl_form_grammar.proofs.lemmas.fits.Effects.{effect_fit, effect_draws}

pub condition-fits : ConditionFits
condition-fits d s f c is w domain declared =
    condition-grows (world_of d) w (domain_of d) domain (later_from d w domain declared) c (in_sight s) (condition_fit d s f c (condition.condition_derived d s f c is))

pub effect-fits : EffectFits
effect-fits d s f e is w domain declared =
    effect-grows (world_of d) w (domain_of d) domain (later_from d w domain declared) e (in_sight s) (effect_fit d s f e (effect.effect_derived d s f e is))

pub effect-draws : EffectDraws
effect-draws d s f e is = effect_draws d s f e (effect.effect_derived d s f e is)
