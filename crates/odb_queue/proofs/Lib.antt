pub mod MonitorCalls
pub mod ResultTexts
