-- The cartridges that people put in and take out.
use Rattle.std.specs.Prelude.{ℕ, cond, ◌==◌}
use Rattle.server.specs.Machine.{Call, Reply, Event}
use Rattle.server.specs.Machine.Call.{receive, step, put, take_out, service, open-door, shut-door, message}
use Rattle.server.specs.Machine.Reply.{response, granted, took, messaged, refused, barred}

-- One where two numbers are the same.
abbrev pub one : ℕ → ℕ → ℕ
one number k = cond (number == k) 1 0

-- How many cartridges of number k a call brings if it is granted.
abbrev pub brings : ℕ → Call → ℕ
brings k (receive packet n) = 0
brings k (step n) = 0
brings k (put p number) = one number k
brings k (take_out p) = 0
brings k (service p on) = 0
brings k open-door = 0
brings k shut-door = 0
brings k message = 0

abbrev pub if_granted : Reply → ℕ → ℕ
if_granted (response bytes) x = 0
if_granted granted x = x
if_granted (took number) x = 0
if_granted (messaged m dropped) x = 0
if_granted (refused why) x = 0
if_granted barred x = 0

-- How many cartridges of number k were put in by a call.
abbrev pub puts : ℕ → Event → ℕ
puts k e = if_granted e.reply (brings k e.call)

-- How many were taken out by it.
abbrev pub removes : ℕ → Reply → ℕ
removes k (response bytes) = 0
removes k granted = 0
removes k (took number) = one number k
removes k (messaged m dropped) = 0
removes k (refused why) = 0
removes k barred = 0

abbrev pub takes : ℕ → Event → ℕ
takes k e = removes k e.reply
