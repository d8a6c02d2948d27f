-- The plain pair, and rows over it.
use Rattle.std.proofs.Common.{◌≡◌, ℕ, ◌*◌, ◌≤◌, min, Bool, true, false, cond, leb, Option, None, Some, refl, sym, ap, subst, inl, inr, ◌∙◌, le-leb, arith}
use Rattle.std.proofs.lemmas.Bool.{cases_Bool}
use Rattle.plain_list.proofs.lemmas.weighted.Totals.{total-same}
use Rattle.decision_process.specs.Process.{Process, Start}
use Rattle.decision_process.specs.Backup.{floor, ceiling}
use Rattle.decision_process.specs.Following.{IsLowerFrom, IsUpperFrom}
use Rattle.decision_process.specs.Readings.{Row, action_of, row_at, low, high, act}
use Rattle.decision_process.specs.Balanced.{IsBalancedAt}
use Rattle.decision_process.proofs.Readings.{row_is_read}
use Rattle.decision_process.proofs.Backups.{lower_still_follows, upper_still_follows}
use Rattle.balanced_pair.specs.Pairs.{plain, low_over, high_over, act_over}
use Rattle.balanced_pair.specs.Laws as laws
use Rattle.balanced_pair.proofs.Halves.{upper_at_goal, zero_follows, quit_follows}
use Rattle.balanced_pair.proofs.Rows.{row_cases}

module _ {S A : Type 0} (p : Process S A) where
  pub plain_is_balanced : laws.PlainIsBalanced p
  plain_is_balanced s = record {
    low_follows = zero_follows p (λ t. 0) s;
    high_at_goal = λ on. ap (λ b. cond b 0 p.penalty) on;
    high_follows = quit_follows p (λ t. cond (p.goal t) 0 p.penalty) s (cond (p.goal s) 0 p.penalty)
        (λ off. let is : cond (p.goal s) 0 p.penalty ≡ p.penalty = ap (λ b. cond b 0 p.penalty) off in omega (arith, is));
  }

  plain_alike : (b : Bool) (quit : ℕ) → cond b 0 (cond b 0 quit) ≡ cond b 0 quit
  plain_alike true quit = refl
  plain_alike false quit = refl

  within_alike : (b : Bool) (upper quit : ℕ) → upper ≤ quit → cond b 0 (min upper (cond b 0 quit)) ≡ cond b 0 upper
  within_alike true upper quit within = refl
  within_alike false upper quit within = omega (arith, within)

  pub plain_reads_alike : laws.PlainReadsAlike p
  plain_reads_alike same exact rows within s = elim (row_cases same exact rows s) [
    | inl none ↦ record {
      low = rw (none, low_over, low) refl;
      high = rw (none, high_over, high) (plain_alike (p.goal s) p.penalty);
      act = λ off. rw (none, act_over, act) refl;
    }
    | inr found ↦
        let row : Row S A = found.0 in
        record {
          low = rw (found.3, low_over, low) (omega arith);
          high = rw (found.3, high_over, high) (within_alike (p.goal s) row.upper p.penalty (within row found.1));
          act = λ off.
              let quit : cond (p.goal s) 0 p.penalty ≡ p.penalty = ap (λ b. cond b 0 p.penalty) off in
              let takes : leb row.upper (cond (p.goal s) 0 p.penalty) ≡ true = le-leb row.upper (cond (p.goal s) 0 p.penalty) (omega (arith, quit, within row found.1)) in
              rw (found.3, act_over, act) (ap (λ b. cond b (action_of row.act) None) takes);
        }
  ]

  pub balanced_is_over_plain : laws.BalancedIsOverPlain p
  balanced_is_over_plain same exact starts start_den c balanced within =
      let alike : (s : S) → laws.ReadsAlike p same c.rows s = plain_reads_alike same exact c.rows within in
      record {
        penalty = balanced.penalty;
        rows = λ row inside.
            let is : row_at same c.rows row.state ≡ Some row = row_is_read p same exact c.rows balanced.distinct row inside in
            let here : IsBalancedAt p (low same c.rows) (high p same c.rows) (act same c.rows) row.state = balanced.balanced row.state in
            let lower : low same c.rows row.state ≡ row.lower = ap (λ (o : Option (Row S A)). elim o [ None ↦ 0 | Some row ↦ row.lower ]) is in
            let takes : act same c.rows row.state ≡ action_of row.act
            = ap (λ (o : Option (Row S A)). elim o [ None ↦ None | Some row ↦ action_of row.act ]) is in
            record {
              lower = lower_still_follows p (low same c.rows) (low_over p same (plain p) c.rows) row.state row.lower
                  (subst (λ value. IsLowerFrom p (low same c.rows) row.state value) lower here.low_follows)
                  (λ _ a _ o _. omega (arith, (alike o.next).low));
              upper = elim (cases_Bool (p.goal row.state)) [
                | inl on ↦ upper_at_goal p (high_over p same (plain p) c.rows) row.state (action_of row.act) row.upper on
                | inr off ↦
                    let upper : high p same c.rows row.state ≡ row.upper
                    = ap (λ b. cond b 0 (elim (row_at same c.rows row.state) [ None ↦ p.penalty | Some row ↦ row.upper ])) off
                    ∙ ap (λ (o : Option (Row S A)). elim o [ None ↦ p.penalty | Some row ↦ row.upper ]) is in
                    upper_still_follows p (high p same c.rows) (high_over p same (plain p) c.rows) row.state (action_of row.act) row.upper
                    (subst (λ act. IsUpperFrom p (high p same c.rows) row.state act row.upper) takes
                    (subst (λ value. IsUpperFrom p (high p same c.rows) row.state (act same c.rows row.state) value) upper here.high_follows))
                    (λ _ a _ o _. omega (arith, (alike o.next).high))
              ];
            };
        interval = record {
          floor_of_low = balanced.interval.floor_of_low ∙ ap (λ n. floor n start_den)
              (total-same (λ (start : Start S). start.weight * low same c.rows start.state)
              (λ start. start.weight * low_over p same (plain p) c.rows start.state) starts
              (λ start _. ap (λ n. start.weight * n) (sym (alike start.state).low)));
          ceiling_of_high = balanced.interval.ceiling_of_high ∙ ap (λ n. ceiling n start_den)
              (total-same (λ (start : Start S). start.weight * high p same c.rows start.state)
              (λ start. start.weight * high_over p same (plain p) c.rows start.state) starts
              (λ start _. ap (λ n. start.weight * n) (sym (alike start.state).high)));
        };
      }
