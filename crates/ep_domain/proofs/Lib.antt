pub mod FaultCode
