-- Rows of kept instances that are put behind others.
use Rattle.std.proofs.Common.{◌≡◌, ℕ, zero, suc, ◌+◌, ◌-◌, ◌<◌, ◌≤◌, Bool, true, false, ◌&&◌, cond, List, [], ◌∷◌, ◌++◌, map, filter, length, take, drop, get_or, add-one, refl, sym, ap, subst, ◌∙◌, arith, length-append, length-drop}
use Rattle.std.specs.Prelude.{All, flat_map}
use Rattle.std.proofs.lemmas.List.{map-append, append_assoc, append-nil}
use Rattle.std.proofs.lemmas.Grind.{flat_map-append}
use Rattle.std.proofs.lemmas.List.Elements.{All-nil, All-cons, All-append}
use Rattle.ppddl_model.specs.declared.tree.Action.{Action}
use Rattle.ppddl_model.specs.declared.tree.Param.{Param}
use Rattle.ppddl_model.specs.declared.tree.Task.{Task}
use Rattle.ppddl_model.specs.State.{Name}
use Rattle.ppddl_model.specs.Objects.{World, Binding, objects_of, bindings}
use Rattle.ppddl_model.specs.Functions.{are_valued}
use Rattle.ppddl_model.specs.Steps.{world}
use Rattle.type_table.specs.Types.{object_at}
use Rattle.type_table.proofs.Lists.{by_test}
use Rattle.task_instances.specs.facts.Facts.{table_of}
use Rattle.task_instances.specs.kept_rows.Rows.{Table, with_row}
use Rattle.task_instances.specs.kept_rows.Kept.{bound_to, binding_of_row, IsRow, is_kept_under, IsAdded, AreKept}
use Rattle.task_instances.specs.kept_rows.Stages.{may_hold, params_of}
use Rattle.task_instances.specs.declared.kept_rows.stages.Stage.{Stage}

filter-append : {X : Type 0} (p : X → Bool) (xs ys : List X) → filter p (xs ++ ys) ≡ filter p xs ++ filter p ys
filter-append p [] ys = refl
filter-append p (x ∷ xs) ys = by_test (p x)
    (λ e. rw e (ap (λ l. x ∷ l) (filter-append p xs ys)))
    (λ e. rw e (filter-append p xs ys))

module _ (task : Task) (a : Action) where
  abbrev w : World
  w = table_of task

  abbrev row_binding : List ℕ → Binding
  row_binding = binding_of_row w a.params

  pub nothing_added : (bs : List Binding) (t : Table) → filter (is_kept_under task a) bs ≡ [] → IsAdded task a bs t t
  nothing_added bs t none = record {
    more = [];
    width = refl;
    rows = sym (append-nil t.rows);
    bound = sym none;
    each = All-nil (IsRow w (length a.params));
  }

  pub added_both : (bs cs : List Binding) (old mid new : Table) → IsAdded task a bs old mid → IsAdded task a cs mid new → IsAdded task a (bs ++ cs) old new
  added_both bs cs old mid new first second = record {
    more = first.more ++ second.more;
    width = second.width ∙ first.width;
    rows = second.rows ∙ ap (λ l. l ++ second.more) first.rows ∙ append_assoc old.rows first.more second.more;
    bound =
        map-append row_binding first.more second.more
        ∙ ap (λ l. l ++ map row_binding second.more) first.bound
        ∙ ap (λ l. filter (is_kept_under task a) bs ++ l) second.bound
        ∙ sym (filter-append (is_kept_under task a) bs cs);
    each = All-append (IsRow w (length a.params)) first.more second.more first.each second.each;
  }

  pub row_added : (b : Binding) (row : List ℕ) (old new : Table) → new ≡ with_row old row → is_kept_under task a b ≡ true
      → IsRow w (length a.params) row → bound_to w a.params row [] ≡ b → IsAdded task a (b ∷ []) old new
  row_added b row old new is kept fits bound = record {
    more = row ∷ [];
    width = ap (λ (t : Table). t.width) is;
    rows = ap (λ (t : Table). t.rows) is;
    bound = ap (λ x. x ∷ []) bound ∙ sym (ap (λ k. cond k (b ∷ []) []) kept);
    each = All-cons (IsRow w (length a.params)) row [] fits (All-nil (IsRow w (length a.params)));
  }

  pub row_left : (b : Binding) (t : Table) → is_kept_under task a b ≡ false → IsAdded task a (b ∷ []) t t
  row_left b t left = nothing_added (b ∷ []) t (ap (λ k. cond k (b ∷ []) []) left)

  -- ---- what is kept

  pub kept_where : (b : Binding) (valued : Bool) → valued ≡ are_valued (world task) a.effect b → may_hold task b a.condition ≡ true
      → valued ≡ is_kept_under task a b
  kept_where b valued is may = is ∙ sym (ap (λ k. k && are_valued (world task) a.effect b) may)

  pub none_kept : (t : Table) → t.rows ≡ [] → filter (is_kept_under task a) (bindings (world task) a.params []) ≡ [] → AreKept task a t
  none_kept t none are = record {
    bound = ap (map row_binding) none ∙ sym are;
    each = subst (All (IsRow w (length a.params))) (sym none) (All-nil (IsRow w (length a.params)));
  }

  pub all_added : (old new : Table) → old.rows ≡ [] → IsAdded task a (bindings (world task) a.params []) old new → AreKept task a new
  all_added old new none added =
      let are : new.rows ≡ added.more = added.rows ∙ ap (λ l. l ++ added.more) none in
      record {
        bound = ap (map row_binding) are ∙ added.bound;
        each = subst (All (IsRow w (length a.params))) (sym are) added.each;
      }

-- ---- variables bound one by one

module _ (w : World) where
  -- the ways to bind the further variables where the first is an object
  abbrev pub ways_with : World → List Param → Param → Binding → ℕ → List Binding
  ways_with v rest p b o = bindings v rest ((p.name, object_at w o) ∷ b)

flat-map : {X Y Z : Type 0} (g : Y → List Z) (f : X → Y) (xs : List X) → flat_map (λ x. g (f x)) xs ≡ flat_map g (map f xs)
flat-map g f [] = refl
flat-map g f (x ∷ xs) = ap (λ l. g (f x) ++ l) (flat-map g f xs)

pub all_ways : (task : Task) (vars : List Param) (p : Param) (b : Binding) (objects : List ℕ) → (length vars ≡ 0 → ⊥) → p ≡ get_or vars 0 p
    → map (object_at (table_of task)) objects ≡ objects_of (table_of task) p
    → flat_map (ways_with (table_of task) (world task) (drop 1 vars) p b) objects ≡ bindings (world task) vars b
all_ways task [] p b objects some is are = absurd (some refl)
all_ways task (q ∷ vars) p b objects some is are =
    flat-map (λ o. bindings (world task) vars ((p.name, o) ∷ b)) (object_at (table_of task)) objects
    ∙ ap (flat_map (λ o. bindings (world task) vars ((p.name, o) ∷ b))) are
    ∙ ap (λ r. bindings (world task) (r ∷ vars) b) is

drop-drop : {X : Type 0} (n : ℕ) (xs : List X) → drop 1 (drop n xs) ≡ drop (suc n) xs
drop-drop zero xs = refl
drop-drop (suc n) [] = refl
drop-drop (suc n) (x ∷ xs) = drop-drop n xs

pub drop_more : {X : Type 0} (n : ℕ) (xs vars : List X) → vars ≡ drop n xs → drop 1 vars ≡ drop (n + 1) xs
drop_more n xs vars are = ap (drop 1) are ∙ drop-drop n xs ∙ ap (λ k. drop k xs) (sym (add-one n))

pub some_left : {X : Type 0} (n : ℕ) (xs vars : List X) → vars ≡ drop n xs → (length vars ≡ 0 → ⊥) → n < length xs
some_left n xs vars are some =
    let long : length vars ≡ length xs - n = ap length are ∙ length-drop n xs in
    omega (arith, long, some)

pub none_left : {X : Type 0} (n : ℕ) (xs vars : List X) → vars ≡ drop n xs → n ≤ length xs → length vars ≡ 0 → n ≡ length xs
none_left n xs vars are within none =
    let long : length vars ≡ length xs - n = ap length are ∙ length-drop n xs in
    omega (arith, long, none, within)

pub end_long : (n : ℕ) (params : List Param) (stages : List Stage) → params_of stages ≡ drop n params → n ≤ length params → length stages ≡ 0 → n ≡ length params
end_long n params [] are within none = none_left n params [] are within refl
end_long n params (s ∷ stages) are within none = absurd (omega (arith, none))

take_more : {X : Type 0} (xs : List X) (i : ℕ) (d : X) → i < length xs → take (suc i) xs ≡ take i xs ++ get_or xs i d ∷ []
take_more [] i d within = absurd (omega arith)
take_more (x ∷ xs) zero d within = refl
take_more (x ∷ xs) (suc i) d within = ap (λ l. x ∷ l) (take_more xs i d (omega arith))

pub take_all : {X : Type 0} (i : ℕ) (xs : List X) → length xs ≤ i → take i xs ≡ xs
take_all zero [] short = refl
take_all (suc i) [] short = refl
take_all zero (x ∷ xs) short = absurd (omega arith)
take_all (suc i) (x ∷ xs) short = ap (λ l. x ∷ l) (take_all i xs (omega arith))

-- one object more
pub way_more : {Y : Type 0} (f : ℕ → List Y) (xs : List ℕ) (i : ℕ) → i < length xs
    → flat_map f (take (i + 1) xs) ≡ flat_map f (take i xs) ++ f (get_or xs i 0)
way_more f xs i within =
    ap (λ k. flat_map f (take k xs)) (add-one i) ∙ ap (flat_map f) (take_more xs i 0 within) ∙ flat_map-append f (take i xs) (get_or xs i 0 ∷ [])
    ∙ ap (λ l. flat_map f (take i xs) ++ l) (append-nil (f (get_or xs i 0)))

pub way_all : {Y : Type 0} (f : ℕ → List Y) (xs : List ℕ) (i : ℕ) → length xs ≤ i → flat_map f (take i xs) ≡ flat_map f xs
way_all f xs i past = ap (flat_map f) (take_all i xs past)

pub row_shorter : (xs : List ℕ) (o : ℕ) → take (length xs) (xs ++ o ∷ []) ≡ xs
row_shorter [] o = refl
row_shorter (x ∷ xs) o = ap (λ l. x ∷ l) (row_shorter xs o)

pub bound_none : (w : World) (vars : List Param) (b : Binding) → bound_to w vars [] b ≡ b
bound_none w [] b = refl
bound_none w (p ∷ vars) b = refl

pub tail_is : {X : Type 0} (xs : List X) → take (length xs - 1) (drop 1 xs) ≡ drop 1 xs
tail_is [] = refl
tail_is (x ∷ xs) = take_all (length (x ∷ xs) - 1) xs (omega arith)

-- a list that is not empty is its first item and the slice behind it
pub cons_is : {X : Type 0} (xs : List X) (x : X) → (length xs ≡ 0 → ⊥) → x ≡ get_or xs 0 x → xs ≡ x ∷ drop 1 xs
cons_is [] x some is = absurd (some refl)
cons_is (y ∷ xs) x some is = ap (λ z. z ∷ xs) (sym is)

-- one variable more is bound
module _ (w : World) (params later : List Param) (first : Param) (o : ℕ) (row pushed : List ℕ) (b : Binding) (name object : Name)
    (put : pushed ≡ row ++ o ∷ []) (named : name ≡ first.name) (at : object ≡ object_at w o) where
  pub same_scope : (first.name, object_at w o) ∷ b ≡ (name, object) ∷ b
  same_scope = λ i. (sym named i, sym at i) ∷ b

  pub next_bound : ((rest : List ℕ) → bound_to w params (row ++ rest) [] ≡ bound_to w (first ∷ later) rest b)
      → (rest : List ℕ) → bound_to w params (pushed ++ rest) [] ≡ bound_to w later rest ((name, object) ∷ b)
  next_bound before rest =
      ap (λ l. bound_to w params (l ++ rest) []) put
      ∙ ap (λ l. bound_to w params l []) (append_assoc row (o ∷ []) rest)
      ∙ before (o ∷ rest)
      ∙ ap (bound_to w later rest) same_scope

  pub bound_there : ((rest : List ℕ) → bound_to w params (row ++ rest) [] ≡ bound_to w (first ∷ later) rest b)
      → bound_to w params pushed [] ≡ (name, object) ∷ b
  bound_there before =
      ap (λ l. bound_to w params l []) (sym (append-nil pushed)) ∙ next_bound before [] ∙ bound_none w later ((name, object) ∷ b)

  pushed_long : length pushed ≡ length row + 1
  pushed_long = ap length put ∙ length-append row (o ∷ [])

  pub next_rest : first ∷ later ≡ drop (length row) params → later ≡ drop (length pushed) params
  next_rest are = drop_more (length row) params (first ∷ later) are ∙ ap (λ k. drop k params) (sym pushed_long)

  pub next_long : first ∷ later ≡ drop (length row) params → length pushed ≤ length params
  next_long are =
      let left : length row < length params = some_left (length row) params (first ∷ later) are (λ none. absurd (omega (arith, none))) in
      omega (arith, left, pushed_long)

  pub next_within : All (λ q. q < length w.objects) row → o < length w.objects → All (λ q. q < length w.objects) pushed
  next_within each here =
      subst (All (λ q. q < length w.objects)) (sym put)
      (All-append (λ q. q < length w.objects) row (o ∷ []) each
      (All-cons (λ q. q < length w.objects) o [] here (All-nil (λ q. q < length w.objects))))

  pub shorter_again : (n : ℕ) (after : List ℕ) → n ≡ length row → after ≡ pushed → take n after ≡ row
  shorter_again n after long same = ap (take n) (same ∙ put) ∙ ap (λ k. take k (row ++ o ∷ [])) long ∙ row_shorter row o

pub pushed_suc : (row pushed : List ℕ) (o : ℕ) → pushed ≡ row ++ o ∷ [] → length pushed ≡ suc (length row)
pushed_suc row pushed o put = ap length put ∙ length-append row (o ∷ []) ∙ add-one (length row)
