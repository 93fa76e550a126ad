pub mod ReceivingLaws
pub mod RefusalTexts
pub mod SendingLaws
