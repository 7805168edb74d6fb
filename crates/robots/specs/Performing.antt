-- What a robot tells and does, by its meaning alone.
use Rattle.std.specs.Prelude.{ℕ, Ok, Err}
use Rattle.robots.specs.declared.act.Question.{Question}
use Rattle.robots.specs.declared.act.Question.TheVariants.{Places, Hand, KindAt, CartridgeAt, ServiceAt}
use Rattle.robots.specs.declared.act.Reply.{Reply}
use Rattle.robots.specs.declared.act.Reply.TheVariants.{Count, InHand, IsKind, Holds, Serves}
use Rattle.robots.specs.declared.act.Act.{Act}
use Rattle.robots.specs.declared.act.Act.TheVariants.{Lift, Set, Put, Take, Switch}
use Rattle.robots.specs.declared.act.Answer.{Answer}
use Rattle.robots.specs.declared.act.Answer.TheVariants.{Number, Done}
use Rattle.robots.specs.Meaning.{Meaning, count, kind_asked, cartridge_asked, service_asked}
use Rattle.robots.specs.Acts.{lift_answer, lifted, set_answer, set_down, put_answer, put_in, take_answer, taken, switch_answer, switched}
use Rattle.robots.specs.Cartridges.{SameCartridges, OneMore, OneFewer}

-- What a question is told.
abbrev pub reply_to : Meaning → Question → Reply
reply_to m Places = Count (count m)
reply_to m Hand = InHand m.hand
reply_to m (KindAt p) = IsKind (kind_asked m p)
reply_to m (CartridgeAt p) = Holds (cartridge_asked m p)
reply_to m (ServiceAt p) = Serves (service_asked m p)

-- What an act answers, and what it leaves.
abbrev pub act_answer : Meaning → Act → Answer
act_answer m (Lift p) = Number (lift_answer m p)
act_answer m (Set p) = Done (set_answer m p)
act_answer m (Put p number) = Done (put_answer m p number)
act_answer m (Take p) = Number (take_answer m p)
act_answer m (Switch p on) = Done (switch_answer m p)

abbrev pub acted : Meaning → Act → Meaning
acted m (Lift p) = lifted m p
acted m (Set p) = set_down m p
acted m (Put p number) = put_in m p number
acted m (Take p) = taken m p
acted m (Switch p on) = switched m p on

-- A put that is granted brings one more cartridge.
abbrev pub Brings : ℕ → Answer → Meaning → Meaning → Type 0
Brings number (Done (Ok x)) before after = OneMore number before after
Brings number (Done (Err fault)) before after = SameCartridges before after
Brings number (Number r) before after = SameCartridges before after

-- A take that is granted removes the cartridge that it tells.
abbrev pub Removes : Answer → Meaning → Meaning → Type 0
Removes (Number (Ok number)) before after = OneFewer number before after
Removes (Number (Err fault)) before after = SameCartridges before after
Removes (Done r) before after = SameCartridges before after

-- What an act does to the cartridges, number by number: only put and take change how many there are.
abbrev pub Conserves : Act → Answer → Meaning → Meaning → Type 0
Conserves (Lift p) answer before after = SameCartridges before after
Conserves (Set p) answer before after = SameCartridges before after
Conserves (Put p number) answer before after = Brings number answer before after
Conserves (Take p) answer before after = Removes answer before after
Conserves (Switch p on) answer before after = SameCartridges before after
