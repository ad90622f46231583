-- What the limits of a state decide.
use Rattle.camp_repo.proofs.Words.{◌≡◌, ◌+◌, true, false, length, nat_le, nat_lt, refl, arith, subst, Holds, StatesHoldTheirLimits, DefaultLimitsHold, catches_named, listed, wanted}
use Rattle.std.proofs.lemmas.Bool.Decides.{nat_tests}

-- each state holds as much as its limits say
pub states_hold : StatesHoldTheirLimits
states_hold state = record {
  full = λ new from catches has fresh most.
      let over : nat_le state.limits.branches (length state.branches) ≡ true = grind (arith, nat_tests) in
      rw has (rw fresh (rw over refl));
  copies = λ new from catches has fresh few.
      let under : nat_le state.limits.branches (length state.branches) ≡ false = grind (arith, nat_tests) in
      rw has (rw fresh (rw under refl));
  full_to_record = λ branch name changes catches has free many.
      let over : nat_lt state.limits.catches (length catches + length changes) ≡ true = grind (arith, nat_tests) in
      rw has (rw free (rw over refl));
  records = λ branch name changes catches tree has free shown few sized short.
      let under : nat_lt state.limits.catches (length catches + length changes) ≡ false = grind (arith, nat_tests) in
      rw has (rw free (rw under (rw short (rw sized (rw shown refl)))));
  full_to_pull = λ from to names theirs ours can many.
      let from_has = can.from_has in
      let to_has = can.to_has in
      let two = can.are_two in
      let all = can.has_listed in
      let some = can.some_wanted in
      let over : nat_lt state.limits.catches (length ours + length (catches_named (wanted ours (listed theirs names)) theirs)) ≡ true = grind (arith, nat_tests) in
      rw from_has (rw to_has (rw two (rw all (rw some (rw over refl)))));
  pulls = λ from to names theirs ours can few.
      let from_has = can.from_has in
      let to_has = can.to_has in
      let two = can.are_two in
      let all = can.has_listed in
      let some = can.some_wanted in
      let under : nat_lt state.limits.catches (length ours + length (catches_named (wanted ours (listed theirs names)) theirs)) ≡ false = grind (arith, nat_tests) in
      rw from_has (rw to_has (rw two (rw all (rw some (rw under refl)))));
}

-- without limits of its own a state has these
pub default_limits_hold : DefaultLimitsHold
default_limits_hold state same = subst (λ limits. Holds limits.catches limits.branches state) same (states_hold state)
