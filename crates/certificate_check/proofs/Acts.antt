-- Acts by the codes of their actions.
use Rattle.std.proofs.Common.{◌≡◌, ℕ, ◌<◌, List, Option, None, length, get_or, sym, ap, subst, ◌∙◌, arith}
use Rattle.std.proofs.lemmas.List.{get_or_default, length-map}
use Rattle.certificate.specs.declared.act.Act.{Act}
use Rattle.certificate.specs.declared.act.Act.TheVariants.{Do}
use Rattle.certificate.specs.Content.{Content, IsAct}
use Rattle.ground_model.specs.Ground.{Ground}
use Rattle.ground_step.specs.Names.{place_of, action_names}
use Rattle.certificate_check.specs.Claims.{doing, act_by, act_codes}

pub within : (g : Ground) (c : Content) (codes : List (Option ℕ)) (act : Act) (i : ℕ) → act ≡ Do i → codes ≡ act_codes g c
    → IsAct (length c.acts) act → i < length codes
within g c codes act i is same valid =
    let below : i < length c.acts = subst (IsAct (length c.acts)) is valid in
    omega (arith, below, ap length same, length-map c.acts (place_of (action_names g)))

pub act_is : (codes codes' : List (Option ℕ)) (act : Act) (i : ℕ) (o : Option ℕ) → act ≡ Do i → codes ≡ codes' → i < length codes
    → o ≡ get_or codes i o → doing o ≡ act_by codes' act
act_is codes codes' act i o is same within read =
    ap doing (read ∙ get_or_default codes i o None within ∙ ap (λ (xs : List (Option ℕ)). get_or xs i None) same)
    ∙ ap (act_by codes') (sym is)
